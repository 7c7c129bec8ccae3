-- The rules of simplification, one by one.
use Rattle.std.specs.Prelude.{ℕ, ◌+◌, ◌-◌, Bool, true, false, cond, not, ◌&&◌, ◌||◌, List, [], ◌∷◌, length, ◌==◌}
use Rattle.model.specs.Labels.{bound_count}
use Rattle.model.specs.State.{State, cur_offset}
use Rattle.model.specs.Simplify.{is_conditional, last_branch, branch_before, target_of, adjoins, has_labels, cut, redirect, turn}
use Rattle.simplification.specs.declared.rules.Rule.{Rule}
use Rattle.simplification.specs.declared.rules.Rule.TheVariants.{CutToNext, Redirect, CutUnreached, TurnBefore}
use Rattle.simplification.specs.declared.rules.Outcome.{Outcome}
use Rattle.simplification.specs.declared.rules.Outcome.TheVariants.{Applied, Stopped, Passed}

abbrev pub apply : Rule → State → Outcome × State
apply CutToNext s = cond (target_of s (last_branch s) == cur_offset s) (Applied, cut s) (Passed, s)
apply Redirect s =
    cond (is_conditional (last_branch s) || target_of s (last_branch s) == (last_branch s).start) (Stopped, s)
    (cond (has_labels s) (Applied, redirect s) (Passed, s))
apply CutUnreached s = cond (adjoins s && not (is_conditional (branch_before s))) (Applied, cut s) (Passed, s)
apply TurnBefore s =
    cond (adjoins s && is_conditional (branch_before s) && target_of s (branch_before s) == cur_offset s)
    (Applied, turn (cut s) (length s.branches - 2) (last_branch s).target)
    (Passed, s)

-- the rules are tried in order: whether one applied, and the tables after it
abbrev pub try_on : Outcome → State → (State → Bool × State) → Bool × State
try_on Applied s rest = (true, s)
try_on Stopped s rest = (false, s)
try_on Passed s rest = rest s

abbrev pub try_rules : List Rule → State → Bool × State
try_rules [] s = (false, s)
try_rules (r ∷ rs) s = try_on (apply r s).0 (apply r s).1 (try_rules rs)

abbrev pub all_rules : List Rule
all_rules = CutToNext ∷ Redirect ∷ CutUnreached ∷ TurnBefore ∷ []

-- each round cuts a branch, or makes a label that stands somewhere an alias
abbrev pub fuel : State → ℕ
fuel s = length s.branches + bound_count s.labels
