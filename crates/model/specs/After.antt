-- Finished code: regions are filled, and records and labels are found by offset.
use Rattle.std.specs.Prelude.{◌≡◌, ℕ, ◌<◌, cond, not, List, [], ◌∷◌, length, Some, None, Ok, Err, Option, Result, ◌==◌, nat_le, slice_index_or}
use Rattle.model.specs.declared.rows.Place.TheVariants.{At}
use Rattle.model.specs.declared.rows.Region.{Region}
use Rattle.model.specs.declared.refusals.Refusal.{Refusal}
use Rattle.model.specs.declared.refusals.Refusal.TheVariants.{NoSuchRegion, BadBytes}
use Rattle.model.specs.State.{State, with_code}
use Rattle.model.specs.Code.{overwritten}
use Rattle.model.specs.Labels.{label_row}

-- the row of a region
abbrev pub region_row : State → ℕ → Region
region_row s n = slice_index_or s.regions n (record { start = 0; len = 0 })

-- The bytes of a region are overwritten, and no others. A region of length 0 may lie behind the end of the code: nothing is
-- written.
abbrev pub fill_region : State → ℕ → List ℕ → Result (Unit {0}) Refusal × State
fill_region s n bytes =
    cond (nat_le (length s.regions) n) (Err NoSuchRegion, s)
    (cond (not (length bytes == (region_row s n).len)) (Err BadBytes, s)
    (Ok tt, with_code s (cond (length bytes == 0) s.code (overwritten s.code (region_row s n).start bytes))))

-- The first record at an offset, of any table whose rows have one.
abbrev pub first_at : {R : Type 0} → (R → ℕ) → List R → ℕ → Option R
first_at offset [] at = None
first_at offset (r ∷ rs) at = cond (offset r == at) (Some r) (first_at offset rs at)

-- a label that stands at an offset
pub record StandsAt (s : State) (at l : ℕ) : Type 0 where
  pub exists : l < length s.labels
  pub here : (label_row s.labels l).place ≡ At at

-- What a search for a label at an offset may answer: one that stands there, or none where none does.
abbrev pub LabelAt : State → ℕ → Option ℕ → Type 0
LabelAt s at (Some l) = StandsAt s at l
LabelAt s at None = (l : ℕ) → StandsAt s at l → ⊥
