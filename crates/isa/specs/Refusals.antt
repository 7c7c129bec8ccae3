-- The number of each refusal.
use Rattle.std.specs.Prelude.{ℕ}
use Rattle.isa.specs.declared.refusals.PatchRefusal.{PatchRefusal}
use Rattle.isa.specs.declared.refusals.PatchRefusal.TheVariants.{NoSuchKind, WrongLength, NotZero, NotAligned, OutOfReach}

abbrev pub refusal_number : PatchRefusal → ℕ
refusal_number NoSuchKind = 6
refusal_number WrongLength = 7
refusal_number NotZero = 7
refusal_number NotAligned = 5
refusal_number OutOfReach = 18
