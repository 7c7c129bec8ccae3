use Rattle.std.proofs.Common.{◌≡◌, ℕ, ◌≤◌, true, take, drop}
use Rattle.model.specs.Labels.{standing}
use Rattle.model.specs.Simplify.{takes_branch, rounds, all_rounds}
use Rattle.simplification.specs.Rules.{fuel, try_rules, all_rules}
use Rattle.tables.specs.View.{view}
use Rattle.simplification.proofs.rounds.run_rounds.Given as goal

abbrev pub invariant-loop-label : goal.invariant-loop-label
invariant-loop-label l = (l.stood ≤ 100) × (l.stood ≡ standing l.branch.start (take l.label-index l.label-items))

abbrev pub invariant-loop-rule : goal.invariant-loop-rule
invariant-loop-rule l =
    (takes_branch (view l.initial.tables) ≡ true) × (view l.tables ≡ view l.initial.tables)
    × (try_rules (drop l.rule-index all_rules) (view l.initial.tables) ≡ try_rules all_rules (view l.initial.tables))

abbrev pub invariant-rounds : goal.invariant-rounds
invariant-rounds l =
    (n : ℕ) × (fuel (view l.tables) ≤ n) × ((rounds n (view l.tables)).1 ≡ (all_rounds (view l.initial.tables)).1)

abbrev pub decreases-rounds : goal.decreases-rounds
decreases-rounds l = fuel (view l.tables)
