-- What it says that an encoding is equal, or why it is not.
use Rattle.std.specs.Prelude.{◌≡◌, ℕ, ◌≢◌, List, ℤ, Ok, Err, vec_items, Result}
use Rattle.isa.specs.Isa.{Isa, Patchable}
use Rattle.isa.specs.Patches.{TurnedAway as IsTurnedAway}
use Rattle.aarch64.specs.Meaning.{aarch64}
use Rattle.riscv.specs.Meaning.{riscv}
use Rattle.jump_report.specs.declared.ReportError.{ReportError}
use Rattle.jump_report.specs.declared.ReportError.TheVariants.{OutOfMemory as ReportMemory, Refused}
use Rattle.jump_report.specs.declared.text.HexError.{HexError}
use Rattle.jump_report.specs.declared.text.HexError.TheVariants.{OutOfMemory as HexMemory, NotHex}
use Rattle.jump_report.specs.declared.text.SetName.{SetName}
use Rattle.jump_report.specs.declared.text.SetName.TheVariants.{AArch64, RiscV}
use Rattle.vectors.specs.declared.vector.Vector.{Vector}
use Rattle.vectors.specs.declared.vector.Fault.{Fault}
use Rattle.vectors.specs.declared.vector.Fault.TheVariants.{OutOfMemory, TooShort, Unread, NoBytes, TurnedAway, Gives, Reads}

abbrev pub from_hex : HexError → Fault
from_hex HexMemory = OutOfMemory
from_hex NotHex = NoBytes

abbrev pub from_report : ReportError → Fault
from_report ReportMemory = OutOfMemory
from_report (Refused e) = TurnedAway e

abbrev pub meaning_of : SetName → Isa
meaning_of AArch64 = aarch64
meaning_of RiscV = riscv

-- an encoding whose bytes b hold the displacement d in the bytes p
pub record Equal (i : Isa) (k : ℕ) (b : List ℕ) (d : ℤ) (p : List ℕ) : Type 0 where
  pub could : Patchable i k b d
  pub patched : i.patched k b d ≡ p
  pub reads : i.reads k p ≡ d

abbrev pub JudgedAs : Isa → ℕ → List ℕ → ℤ → List ℕ → Result (Unit {0}) Fault → Type 0
JudgedAs i k b d p (Ok _) = Equal i k b d p
JudgedAs i k b d p (Err OutOfMemory) = Unit {0}
JudgedAs i k b d p (Err TooShort) = ⊥
JudgedAs i k b d p (Err (Unread e)) = ⊥
JudgedAs i k b d p (Err NoBytes) = ⊥
JudgedAs i k b d p (Err (TurnedAway e)) = IsTurnedAway i k b d e
JudgedAs i k b d p (Err (Gives v)) = (i.patched k b d ≡ vec_items v) × (vec_items v ≢ p)
JudgedAs i k b d p (Err (Reads n)) = (i.reads k p ≡ n) × (n ≢ d)

abbrev pub Judged : Isa → Vector → Result (Unit {0}) Fault → Type 0
Judged i v r = JudgedAs i v.request.kind (vec_items v.request.bytes) v.request.displacement (vec_items v.patched) r
