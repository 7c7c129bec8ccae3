-- What is told of a request, and why a set turns one away, with the set's numbers.
use Rattle.std.specs.Prelude.{◌≡◌, ℕ, ◌⊎◌, Ok, Err, vec_items, Result}
use Rattle.isa.specs.declared.PatchRefusal.{PatchRefusal}
use Rattle.isa.specs.declared.PatchRefusal.TheVariants.{NoSuchKind, WrongLength, NotZero, NotAligned, OutOfReach}
use Rattle.isa.specs.Isa.{Isa}
use Rattle.isa.specs.Patches.{TurnedAway}
use Rattle.jump_report.specs.declared.JumpReport.{JumpReport}
use Rattle.jump_report.specs.declared.Request.{Request}
use Rattle.jump_report.specs.Report.{JumpSet}
use Rattle.jump_report.specs.declared.text.SetName.{SetName}
use Rattle.jump_report.specs.declared.text.SetName.TheVariants.{AArch64, RiscV}
use Rattle.aarch64.specs.Meaning.{aarch64}
use Rattle.riscv.specs.Meaning.{riscv}
use Rattle.fields.specs.declared.line.LineError.{LineError}
use Rattle.fields.specs.declared.line.LineError.TheVariants.{OutOfMemory, NoSuchKind as LineNoSuchKind, WrongLength as LineWrongLength, NotZero as LineNotZero, NotAligned as LineNotAligned, OutOfReach as LineOutOfReach}

abbrev pub meaning_of : SetName → Isa
meaning_of AArch64 = aarch64
meaning_of RiscV = riscv

abbrev pub explained : Isa → ℕ → PatchRefusal → LineError
explained i k NoSuchKind = LineNoSuchKind i.kinds
explained i k WrongLength = LineWrongLength (i.size k)
explained i k NotZero = LineNotZero
explained i k NotAligned = LineNotAligned i.align
explained i k OutOfReach = LineOutOfReach (i.max_neg k) (i.max_pos k)

-- the set's report, or why it turned the request away
abbrev pub Done : Isa → Request → Result JumpReport LineError → Type 0
Done i q (Ok r) = JumpSet i q.kind (vec_items q.bytes) q.displacement r
Done i q (Err e) =
    (e ≡ OutOfMemory) ⊎ ((w : PatchRefusal) × TurnedAway i q.kind (vec_items q.bytes) q.displacement w × (e ≡ explained i q.kind w))
