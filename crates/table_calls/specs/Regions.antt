-- What opening and closing a region answer, without the token.
use Rattle.std.specs.Prelude.{◌≡◌, ℕ, Ok, Err, Result}
use Rattle.model.specs.declared.rows.Region.{Region}
use Rattle.model.specs.declared.refusals.Refusal.{Refusal}
use Rattle.table_calls.specs.declared.tokens.OpenPatchRegion.{OpenPatchRegion}
use Rattle.table_calls.specs.declared.tokens.PatchRegion.{PatchRegion}

-- the number of the region opened
abbrev pub opened_number : Result OpenPatchRegion Refusal → Result ℕ Refusal
opened_number (Ok x) = Ok x.number
opened_number (Err e) = Err e

-- where the region closed lies
abbrev pub closed_place : Result PatchRegion (Refusal × OpenPatchRegion) → Result Region Refusal
closed_place (Ok x) = Ok x.place
closed_place (Err e) = Err e.0

-- the closed region has the number of the open one, and a refusal hands that back
abbrev pub HandedBack : Result PatchRegion (Refusal × OpenPatchRegion) → OpenPatchRegion → Type 0
HandedBack (Ok x) region = x.number ≡ region.number
HandedBack (Err e) region = e.1 ≡ region
