use Rattle.std.proofs.Common.{◌≡◌, ℕ, suc, ◌+◌, ◌-◌, ◌<◌, List, Some, Option, unwrap_or, option_map, ap, ◌∙◌, arith, rules, sym}
use Rattle.model.specs.declared.rows.Label.{Label}
use Rattle.model.specs.Labels.{alias_in, label_row, root_within}
use Rattle.slices.proofs.labels.root_of.Goals as goal

-- one step along the aliases
step : (ls : List Label) (n i l a : ℕ) → i < n → alias_in (label_row ls l).place ≡ Some a → root_within (n - (i + 1)) ls a ≡ root_within (n - i) ls l
step ls n i l a h e =
    let more : n - i ≡ suc (n - (i + 1)) = omega arith in
    sym (ap (λ k. root_within k ls l) more ∙ ap (λ (o : Option ℕ). unwrap_or (option_map (λ b. root_within (n - (i + 1)) ls b) o) l) e)

pub loop-turn-preserved : goal.loop-turn-preserved
loop-turn-preserved c =
    let alias : alias_in (label_row c.args.labels.now c.loop-turn.label).place ≡ Some c.in-AliasOf.alias = ap (λ (x : Label). alias_in x.place) (sym c.row_of.ensures) ∙ ap alias_in c.in-AliasOf.is in
    (search rules, step c.args.labels.now _ c.loop-turn._turn c.loop-turn.label c.in-AliasOf.alias c.loop-turn-test.true alias ∙ c.loop-turn.invariant.1)
