-- The uses that wait, before an island and after it.
use Rattle.std.specs.Prelude.{◌≡◌, ℕ, ◌+◌, ◌%◌, ◌<◌, ◌≤◌, true, ◌⊎◌, List, length, take, drop, Some, slice_index}
use Rattle.std.proofs.Math.IntN.{sub_ℕ}
use Rattle.std.specs.List.{ContainsAt}
use Rattle.isa.specs.Isa.{Isa, bytes_at}
use Rattle.model.specs.declared.rows.Fixup.{Fixup}
use Rattle.model.specs.State.{State, cur_offset}
use Rattle.model.specs.Labels.{place_of}
use Rattle.model.specs.Fates.{own_fixup}
use Rattle.model.specs.Uses.{Apart}

-- a use is among the fresh or the held ones
abbrev pub Waits : State → Fixup → Type 0
Waits s f = ContainsAt s.fresh f ⊎ ContainsAt s.held f

-- the bytes of a use as they stand
abbrev pub use_bytes : Isa → State → Fixup → List ℕ
use_bytes i s f = bytes_at i f.kind s.code f.offset

-- an offset lies in no use that waits
abbrev pub InNoUse : Isa → State → ℕ → Type 0
InNoUse i s n = (f : Fixup) → Waits s f → (n < f.offset) ⊎ (f.offset + i.size f.kind ≤ n)

-- a use waits in later tables too, and its bytes are the same
pub record StillWaits (i : Isa) (s r : State) (f : Fixup) : Type 0 where
  pub waits : Waits r f
  pub same : use_bytes i r f ≡ use_bytes i s f

-- A use is patched to an offset: its bytes read the displacement to it, outside the field they are the same, and no use that
-- waits shares a byte with it.
pub record Patched (i : Isa) (s r : State) (f : Fixup) (to : ℕ) : Type 0 where
  pub reads : i.reads f.kind (use_bytes i r f) ≡ sub_ℕ to f.offset
  pub outside : i.outside f.kind (use_bytes i r f) ≡ i.outside f.kind (use_bytes i s f)
  pub alone : (g : Fixup) → Waits r g → Apart i f g

-- a use is patched to its label, which stood there before
pub record AtLabel (i : Isa) (s r : State) (f : Fixup) : Type 0 where
  pub place : ℕ
  pub stood : place_of s.labels f.label ≡ Some place
  pub patched : Patched i s r f place

-- A veneer for a use stands whole at an aligned offset behind the code of before, and its own use waits.
pub record VeneerAt (i : Isa) (s r : State) (f : Fixup) (at : ℕ) : Type 0 where
  pub supported : i.supports f.kind ≡ true
  pub behind : cur_offset s ≤ at
  pub aligned : at % i.align ≡ 0
  pub within : at + length (i.veneer f.kind).code ≤ cur_offset r
  pub whole : take (length (i.veneer f.kind).code) (drop at r.code) ≡ (i.veneer f.kind).code
  pub own_waits : Waits r (own_fixup i f at)

-- a use is patched to a veneer of its own
pub record AtVeneer (i : Isa) (s r : State) (f : Fixup) (at : ℕ) : Type 0 where
  pub patched : Patched i s r f at
  pub veneer : VeneerAt i s r f at

-- what may become of a use that waits
abbrev pub Outcome : Isa → State → State → Fixup → Type 0
Outcome i s r f = StillWaits i s r f ⊎ (AtLabel i s r f ⊎ ((at : ℕ) × AtVeneer i s r f at))

-- the own use of a veneer that was made for a use that waited
pub record OfVeneer (i : Isa) (s r : State) (g : Fixup) : Type 0 where
  pub patched_use : Fixup
  pub at : ℕ
  pub waited : Waits s patched_use
  pub is : g ≡ own_fixup i patched_use at
  pub made : AtVeneer i s r patched_use at

-- Code is written in the fields of the uses that wait, and behind the code of before. Nothing else changes in the code.
pub record InFieldsOnly (i : Isa) (s r : State) : Type 0 where
  pub longer : cur_offset s ≤ cur_offset r
  pub bytes : (n : ℕ) → n < cur_offset s → InNoUse i s n → slice_index r.code n ≡ slice_index s.code n
  pub outside : (f : Fixup) → Waits s f → i.outside f.kind (use_bytes i r f) ≡ i.outside f.kind (use_bytes i s f)
