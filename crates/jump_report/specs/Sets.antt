-- The names of the sets.
use Rattle.std.specs.Prelude.{ℕ, cond, List, Some, None, codes, Option}
use Rattle.std.specs.Str.{bytes_eq}
use Rattle.jump_report.specs.declared.text.SetName.{SetName}
use Rattle.jump_report.specs.declared.text.SetName.TheVariants.{AArch64, RiscV}

abbrev pub name_of : SetName → List ℕ
name_of AArch64 = codes "aarch64"
name_of RiscV = codes "riscv"

-- the set of a name
abbrev pub set_named : List ℕ → Option SetName
set_named word = cond (bytes_eq word (name_of AArch64)) (Some AArch64) (cond (bytes_eq word (name_of RiscV)) (Some RiscV) None)
