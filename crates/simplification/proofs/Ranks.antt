-- Each rule that applies takes a branch away, or makes a label that stands somewhere an alias.
use Rattle.std.proofs.Common.{◌≡◌, ◌-◌, ◌<◌, length, arith}
use Rattle.std.proofs.lemmas.List.{length-take, length-set}
use Rattle.std.proofs.lemmas.Bool.Decides.{nat_tests}
use Rattle.model.specs.State.{State, cur_offset}
use Rattle.model.specs.Simplify.{last_branch, cut}
use Rattle.model.proofs.Ending.{bound_moved, bound_aliased}
use Rattle.simplification.specs.declared.rules.Rule.{Rule}
use Rattle.simplification.specs.declared.rules.Rule.TheVariants.{CutToNext, Redirect, CutUnreached, TurnBefore}
use Rattle.simplification.specs.declared.rules.Outcome.TheVariants.{Applied, Stopped, Passed}
use Rattle.simplification.specs.Rules.{apply, fuel}

cut_falls : (s : State) → 0 < length s.branches → fuel (cut s) < fuel s
cut_falls s h =
    let k = bound_moved (cur_offset s) (last_branch s).start s.labels in
    let n = length-take (length s.branches - 1) s.branches in
    omega arith

pub apply_falls : (r : Rule) (s : State) → 0 < length s.branches → (apply r s).0 ≡ Applied → fuel (apply r s).1 < fuel s
apply_falls CutToNext s h e = let k = cut_falls s h in grind arith
apply_falls Redirect s h e = let k = bound_aliased (last_branch s).start (last_branch s).target s.labels in grind (arith, nat_tests)
apply_falls CutUnreached s h e = let k = cut_falls s h in grind arith
apply_falls TurnBefore s h e = let k = cut_falls s h in grind (arith, length-set)

pub apply_passed : (r : Rule) (s : State) → (apply r s).0 ≡ Passed → (apply r s).1 ≡ s
apply_passed CutToNext s e = grind arith
apply_passed Redirect s e = grind arith
apply_passed CutUnreached s e = grind arith
apply_passed TurnBefore s e = grind arith

pub apply_stopped : (r : Rule) (s : State) → (apply r s).0 ≡ Stopped → (apply r s).1 ≡ s
apply_stopped CutToNext s e = grind arith
apply_stopped Redirect s e = grind arith
apply_stopped CutUnreached s e = grind arith
apply_stopped TurnBefore s e = grind arith
