-- Turning a conditional round.
use Rattle.std.specs.Prelude.{◌≡◌, ℕ, Bool, not, Some, refl}
use Rattle.std.proofs.Common.{ap}
use Rattle.bits.specs.Fields.{flip}
use Rattle.bits.proofs.Senses.{get-flip, sense_flip}
use Rattle.isa.specs.declared.jumps.Condition.{Condition}
use Rattle.isa.specs.declared.jumps.Role.TheVariants.{Conditional}
use Rattle.isa.proofs.Conditionals.{passed, no_conditional}
use Rattle.isa.proofs.Inversions.{Turning, Conditionals}
use Rattle.riscv.specs.Meaning.{riscv_words}
use Rattle.riscv.specs.Roles.{branch_role}
use Rattle.riscv.specs.KindTables.{below_2}
use Rattle.riscv.specs.RoleLaws.{b_type}

branch_turned : (w : ℕ) (c : Condition) (s : Bool) → branch_role w ≡ Some (Conditional c s) → branch_role (flip 12 w) ≡ Some (Conditional c (not s))
branch_turned w c s e =
    let k = get-flip 12 in
    let p = passed _ _ c _ s e in
    rw (k 0 7 w tt, k 13 2 w tt, k 15 5 w tt, k 20 5 w tt, sense_flip 12 w, p.test, p.sense) (ap (λ (x : Condition). Some (Conditional x (not s))) p.condition)

pub conditionals : Conditionals riscv_words
conditionals = record {
  turning = λ k w c s h. below_2 (λ k. riscv_words.role k w ≡ Some (Conditional c s) → Turning riscv_words k w c s)
      (λ e. record {
        field = b_type;
        top = 12;
        format_is = refl;
        apart = tt;
        sense_is = (passed _ _ c _ s e).sense;
        sense_turned = refl;
        role_turned = branch_turned w c s e;
      })
      (λ e. absurd (no_conditional _ c s e))
      k h;
  one_place = λ k v w c s h e f. refl;
}
