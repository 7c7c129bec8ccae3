-- Turning a branch round.
use Rattle.std.specs.Prelude.{◌≡◌, ℕ, Bool, not, Some, refl}
use Rattle.std.proofs.Common.{ap}
use Rattle.bits.specs.Fields.{flip}
use Rattle.bits.proofs.Senses.{get-flip, sense_flip}
use Rattle.isa.specs.declared.jumps.Condition.{Condition}
use Rattle.isa.specs.declared.jumps.Role.TheVariants.{Conditional}
use Rattle.isa.proofs.Conditionals.{passed, no_conditional, never_conditional}
use Rattle.isa.proofs.Inversions.{Turning, Conditionals}
use Rattle.short_set.specs.Meaning.{short_words}
use Rattle.short_set.specs.Roles.{role_of}
use Rattle.short_set.specs.KindTables.{below_4, near}

branch_turned : (w : ℕ) (c : Condition) (s : Bool) → role_of 0 w ≡ Some (Conditional c s) → role_of 0 (flip 8 w) ≡ Some (Conditional c (not s))
branch_turned w c s e =
    let k = get-flip 8 in
    let p = passed _ _ c _ s e in
    rw (k 0 8 w tt, k 9 3 w tt, sense_flip 8 w, p.test, p.sense) (ap (λ (x : Condition). Some (Conditional x (not s))) p.condition)

-- only words of kind 0 are conditional
pub conditionals : Conditionals short_words
conditionals = record {
  turning = λ k w c s h. below_4 (λ k. role_of k w ≡ Some (Conditional c s) → Turning short_words k w c s)
      (λ e. record {
        field = near;
        top = 4;
        format_is = refl;
        apart = tt;
        sense_is = (passed _ _ c _ s e).sense;
        sense_turned = refl;
        role_turned = branch_turned w c s e;
      })
      (λ e. absurd (no_conditional _ c s e)) (λ e. absurd (no_conditional _ c s e)) (λ e. absurd (never_conditional c s e))
      k h;
  one_place = λ k v w c s h e f. refl;
}
