-- The uses that wait to be patched, where they stand in the code.
use Rattle.std.specs.Prelude.{◌≡◌, ℕ, ◌+◌, ◌%◌, ◌<◌, ◌≤◌, true, ◌⊎◌, List, [], ◌∷◌, length, pos}
use Rattle.std.specs.List.{AllByRecursion}
use Rattle.isa.specs.Isa.{Isa, bytes_at}
use Rattle.model.specs.declared.rows.Fixup.{Fixup}

-- A use is of a kind of the set, aligned and within the code; if its kind adds, its bytes still read 0; and its deadline is
-- as far as it reaches.
pub record InPlace (i : Isa) (code : List ℕ) (f : Fixup) : Type 0 where
  pub kind : f.kind < i.kinds
  pub whole : f.offset % i.align ≡ 0
  pub within : f.offset + i.size f.kind ≤ length code
  pub unpatched : i.adds f.kind ≡ true → i.reads f.kind (bytes_at i f.kind code f.offset) ≡ pos 0
  pub due : f.deadline ≡ f.offset + i.max_pos f.kind

-- a use ends before another begins
abbrev pub EndsBefore : Isa → Fixup → Fixup → Type 0
EndsBefore i f g = f.offset + i.size f.kind ≤ g.offset

-- two uses share no byte
abbrev pub Apart : Isa → Fixup → Fixup → Type 0
Apart i f g = EndsBefore i f g ⊎ EndsBefore i g f

-- each ends before the next begins
abbrev pub InOrder : Isa → List Fixup → Type 0
InOrder i [] = Unit {0}
InOrder i (f ∷ fs) = AllByRecursion (EndsBefore i f) fs × InOrder i fs

-- no two share a byte
abbrev pub AllApart : Isa → List Fixup → Type 0
AllApart i [] = Unit {0}
AllApart i (f ∷ fs) = AllByRecursion (Apart i f) fs × AllApart i fs

-- All are in place and share no byte. The fresh ones are in order, and the held ones come before them.
pub record Uses (i : Isa) (code : List ℕ) (held fresh : List Fixup) : Type 0 where
  pub held_in_place : AllByRecursion (InPlace i code) held
  pub fresh_in_place : AllByRecursion (InPlace i code) fresh
  pub fresh_in_order : InOrder i fresh
  pub held_apart : AllApart i held
  pub held_first : AllByRecursion (λ (f : Fixup). AllByRecursion (EndsBefore i f) fresh) held
