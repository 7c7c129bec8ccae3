use Rattle.std.proofs.Common.{true, false, ◌≡◌, ◌+◌, ◌<◌, length, get_or, drop, sym, ap, ◌∙◌, arith}
use Rattle.std.proofs.lemmas.List.{at_drop_all}
use Rattle.std.proofs.lemmas.Bool.{eqb-true, eqb-false}
use Rattle.model.specs.Labels.{unbound}
use Rattle.model.specs.declared.rows.Branch.{Branch}
use Rattle.model.specs.Simplify.{last_branch}
use Rattle.simplification.specs.declared.rules.Rule.TheVariants.{CutToNext}
use Rattle.simplification.specs.Rules.{fuel, try_rules, all_rules}
use Rattle.tables.specs.View.{view}
use Rattle.simplification.proofs.RoundSteps.{takes_none, takes_apart, takes_crowded, over_none, over_tried, again, step_applied, step_stopped, step_passed, place_eq, stood_some, passed_same, stopped_same, applied_falls}
use Rattle.simplification.proofs.rounds.run_rounds.Goals as goal

pub returns-then-is_empty : goal.returns-then-is_empty
returns-then-is_empty c =
    let s = view c.rounds.tables in
    let none : length c.rounds.tables.branches.rows.items ≡ 0 = omega (arith, eqb-true _ 0 (sym c.if-is_empty.ensures)) in
    sym (over_none s (takes_none s none) c.rounds.invariant.0) ∙ c.rounds.invariant.2

pub returns-then-branch-len : goal.returns-then-branch-len
returns-then-branch-len c =
    let s = view c.rounds.tables in
    let apart : (last_branch s).end ≡ length c.rounds.tables.code.rows.items → ⊥ =
    λ e. c.if-branch-len.true (ap (λ (b : Branch). b.end) c.last_branch_of-branch.ensures ∙ (e ∙ omega arith)) in
    sym (over_none s (takes_apart s apart) c.rounds.invariant.0) ∙ c.rounds.invariant.2

pub returns-then-stood-gt-MAX_LABELS_AT_BRANCH : goal.returns-then-stood-gt-MAX_LABELS_AT_BRANCH
returns-then-stood-gt-MAX_LABELS_AT_BRANCH c =
    let s = view c.rounds.tables in
    let more = stood_some s c.last_branch_of-branch.result c.deref-label-items.result.now c.loop-label.label-index c.loop-label.stood
    c.last_branch_of-branch.ensures c.deref-label-items.ensures.value c.loop-label-test.true c.loop-label.invariant.1 (place_eq c.last_branch_of-branch.result.start (get_or c.deref-label-items.result.now c.loop-label.label-index (unbound false)).place true c.if-eq.ensures) in
    sym (over_none s (takes_crowded s (omega arith)) c.rounds.invariant.0) ∙ c.rounds.invariant.2

falls : (c : goal.In-Applied) → fuel (view c.apply_rule.new.tables) < fuel (view c.rounds.tables)
falls c =
    let b = c.rounds.tables in
    let s = view b in
    let some : 0 < length b.branches.rows.items = omega (arith, eqb-false _ 0 (sym c.if-is_empty.ensures), b.branches.rows.ok.0) in
    applied_falls (get_or all_rules c.loop-rule.rule-index CutToNext) s (view c.loop-rule.tables) (view c.apply_rule.new.tables) c.loop-rule.invariant.1 c.in-Applied.ensures some

pub rounds-smaller : goal.rounds-smaller
rounds-smaller c = falls c

pub rounds-preserved : goal.rounds-preserved
rounds-preserved c =
    let s = view c.rounds.tables in
    let t = view c.apply_rule.new.tables in
    let tried = step_applied s (view c.loop-rule.tables) t c.loop-rule.rule-index c.loop-rule-test.true c.loop-rule.invariant.1 c.loop-rule.invariant.2 c.in-Applied.ensures in
    let p = again s t c.loop-rule.invariant.0 tried (falls c) c.rounds.invariant.0 c.rounds.invariant.1 in
    (p.0, p.1, p.2 ∙ c.rounds.invariant.2)

pub loop-rule-preserved : goal.loop-rule-preserved
loop-rule-preserved c =
    let s = view c.rounds.tables in
    let t = view c.apply_rule.new.tables in
    let rule = get_or all_rules c.loop-rule.rule-index CutToNext in
    let same = passed_same rule s (view c.loop-rule.tables) t c.loop-rule.invariant.1 c.in-Passed.ensures in
    let tried = step_passed s (view c.loop-rule.tables) t c.loop-rule.rule-index c.loop-rule-test.true c.loop-rule.invariant.1 c.loop-rule.invariant.2 c.in-Passed.ensures in
    (c.loop-rule.invariant.0, same, ap (try_rules (drop (c.loop-rule.rule-index + 1) all_rules)) (sym same) ∙ tried)

pub returns-in-Stopped : goal.returns-in-Stopped
returns-in-Stopped c =
    let s = view c.rounds.tables in
    let t = view c.apply_rule.new.tables in
    let rule = get_or all_rules c.loop-rule.rule-index CutToNext in
    let same = stopped_same rule s (view c.loop-rule.tables) t c.loop-rule.invariant.1 c.in-Stopped.ensures in
    let tried = step_stopped s (view c.loop-rule.tables) t c.loop-rule.rule-index c.loop-rule-test.true c.loop-rule.invariant.1 c.loop-rule.invariant.2 c.in-Stopped.ensures in
    same ∙ (sym (over_tried s t c.loop-rule.invariant.0 tried c.rounds.invariant.0) ∙ c.rounds.invariant.2)

pub returns-after-loop-rule : goal.returns-after-loop-rule
returns-after-loop-rule c =
    let s = view c.rounds.tables in
    let all = at_drop_all (λ rs. try_rules rs s) all_rules c.loop-rule.rule-index c.loop-rule-test.false in
    c.loop-rule.invariant.1 ∙ (sym (over_tried s s c.loop-rule.invariant.0 (sym c.loop-rule.invariant.2 ∙ all) c.rounds.invariant.0) ∙ c.rounds.invariant.2)
