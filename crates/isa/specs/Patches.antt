-- When a patch is turned away, and which bytes are an inversion.
use Rattle.std.specs.Prelude.{◌≡◌, ℕ, ◌%◌, ◌<◌, ◌≤◌, Bool, true, ◌&&◌, ◌≢◌, List, length, ℤ, pos, ◌==◌, unsigned_abs}
use Rattle.isa.specs.declared.refusals.PatchRefusal.{PatchRefusal}
use Rattle.isa.specs.declared.refusals.PatchRefusal.TheVariants.{NoSuchKind, WrongLength, NotZero, NotAligned, OutOfReach}
use Rattle.isa.specs.Isa.{Isa, Reaches}
use Rattle.isa.specs.Laws.{OfKind}
use Rattle.isa.specs.Roles.{opposite, same}

-- an adding kind's bytes read 0
abbrev pub Fresh : Isa → ℕ → List ℕ → Type 0
Fresh i k b = i.adds k ≡ true → i.reads k b ≡ pos 0

-- The first thing that is wrong with a patch. No two of these hold at once, and where none does the patch can be
-- made.
abbrev pub TurnedAway : Isa → ℕ → List ℕ → ℤ → PatchRefusal → Type 0
TurnedAway i k b d NoSuchKind = i.kinds ≤ k
TurnedAway i k b d WrongLength = (k < i.kinds) × (length b ≢ i.size k)
TurnedAway i k b d NotZero = OfKind i k b × (Fresh i k b → ⊥)
TurnedAway i k b d NotAligned = OfKind i k b × Fresh i k b × (unsigned_abs d % i.align ≢ 0)
TurnedAway i k b d OutOfReach = OfKind i k b × Fresh i k b × (unsigned_abs d % i.align ≡ 0) × (Reaches i k d → ⊥)

-- The bytes c are an inversion of the bytes b: the same condition, the other sense, and all else outside the
-- field equal. The fields may differ.
abbrev pub inversion : Isa → ℕ → List ℕ → List ℕ → Bool
inversion i k b c =
    (length b == i.size k) && (length c == i.size k && (opposite (i.role k b) (i.role k c) && same (i.rest k b) (i.rest k c)))
