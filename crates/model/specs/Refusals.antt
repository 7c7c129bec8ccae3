-- The number of each refusal.
use Rattle.std.specs.Prelude.{ℕ}
use Rattle.model.specs.declared.refusals.Refusal.{Refusal}
use Rattle.model.specs.declared.refusals.Refusal.TheVariants.{BrokenOff, RegionOpen, NoSuchLabel, AlreadyBound, NotAligned, NoSuchKind, BadBytes, CodeFull, LabelsFull, FixupsFull, BranchesFull, TrapsFull, ConstantsFull, BadConstant, NoSuchConstant, BadPool, UnboundLabel, OutOfReach, BadAlignment, RegionsFull, NoSuchRegion}

abbrev pub refusal_number : Refusal → ℕ
refusal_number BrokenOff = 1
refusal_number RegionOpen = 2
refusal_number NoSuchLabel = 3
refusal_number AlreadyBound = 4
refusal_number NotAligned = 5
refusal_number NoSuchKind = 6
refusal_number BadBytes = 7
refusal_number CodeFull = 8
refusal_number LabelsFull = 9
refusal_number FixupsFull = 10
refusal_number BranchesFull = 11
refusal_number TrapsFull = 12
refusal_number ConstantsFull = 13
refusal_number BadConstant = 14
refusal_number NoSuchConstant = 15
refusal_number BadPool = 16
refusal_number (UnboundLabel l) = 17
refusal_number OutOfReach = 18
refusal_number BadAlignment = 19
refusal_number RegionsFull = 20
refusal_number NoSuchRegion = 21
