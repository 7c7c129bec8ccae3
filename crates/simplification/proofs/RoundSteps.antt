-- One round of simplifying, and the end of the rounds.
use Rattle.std.proofs.Common.{◌≡◌, ℕ, zero, suc, ◌+◌, ◌-◌, ◌<◌, ◌≤◌, Bool, true, false, cond, ltb, List, length, get_or, take, drop, sym, refl, ap, ◌∙◌, subst, arith}
use Rattle.std.proofs.lemmas.List.{drop_more}
use Rattle.std.proofs.lemmas.List.Sums.{count_by_more_yes, sum_by-take-le}
use Rattle.std.proofs.lemmas.Bool.{ne_eqb, lt-leb, and_left, and_right, le-ltb}
use Rattle.model.specs.declared.rows.Branch.{Branch}
use Rattle.model.specs.declared.rows.Label.{Label}
use Rattle.model.specs.declared.rows.Place.{Place}
use Rattle.model.specs.declared.rows.Place.TheVariants.{Nowhere, At, AliasOf}
use Rattle.model.specs.contracts.rows.PlacePartialEq.TheImpl.{ghosts}
use Rattle.model.specs.Labels.{unbound, is_at, standing}
use Rattle.model.specs.State.{State, cur_offset}
use Rattle.model.specs.Simplify.{last_branch, takes_branch, round, rounds}
use Rattle.simplification.specs.declared.rules.Rule.{Rule}
use Rattle.simplification.specs.declared.rules.Rule.TheVariants.{CutToNext}
use Rattle.simplification.specs.declared.rules.Outcome.{Outcome}
use Rattle.simplification.specs.declared.rules.Outcome.TheVariants.{Applied, Stopped, Passed}
use Rattle.simplification.specs.Rules.{fuel, apply, try_on, try_rules, all_rules}
use Rattle.simplification.proofs.Ranks.{apply_falls, apply_passed, apply_stopped}
use Rattle.simplification.proofs.Tries.{tried, untaken}

pub takes_none : (s : State) → length s.branches ≡ 0 → takes_branch s ≡ false
takes_none s a = and_left _ _ (and_left _ _ (le-ltb 0 (length s.branches) (omega arith)))

pub takes_apart : (s : State) → ((last_branch s).end ≡ cur_offset s → ⊥) → takes_branch s ≡ false
takes_apart s a = and_left _ _ (and_right (ltb 0 (length s.branches)) _ (ne_eqb _ _ a))

pub takes_crowded : (s : State) → 100 < standing (last_branch s).start s.labels → takes_branch s ≡ false
takes_crowded s a = and_right (_) _ (lt-leb _ 100 a)

-- a round that applies no rule is the last
round_over : (s : State) → (round s).again ≡ false → (n : ℕ) → (rounds n s).1 ≡ s
round_over s e zero = refl
round_over s e (suc n) = rw e refl

pub over_none : (s : State) → takes_branch s ≡ false → (n : ℕ) → (rounds n s).1 ≡ s
over_none s e = round_over s (ap (λ (p : Bool × State). p.0) (untaken s e))

pub over_tried : (s t : State) → takes_branch s ≡ true → try_rules all_rules s ≡ (false, t) → (n : ℕ) → (rounds n s).1 ≡ s
over_tried s t b e = round_over s (ap (λ (p : Bool × State). p.0) (tried s b ∙ e))

-- a round that applies a rule
pub again : (s t : State) → takes_branch s ≡ true → try_rules all_rules s ≡ (true, t) → fuel t < fuel s → (n : ℕ) → fuel s ≤ n → (m : ℕ) × (fuel t ≤ m) × ((rounds m t).1 ≡ (rounds n s).1)
again s t b e f n h =
    let r = tried s b ∙ e in
    let k : n ≡ suc (n - 1) = omega arith in
    (n - 1, omega arith, sym (ap (λ (x : ℕ). (rounds x s).1) k ∙ more s t (n - 1) (ap (λ (p : Bool × State). p.0) r) (ap (λ (p : Bool × State). p.1) r)))
  where
    more : (s t : State) (m : ℕ) → (round s).again ≡ true → (round s).state ≡ t → (rounds (suc m) s).1 ≡ (rounds m t).1
    more s t m a b = rw a (ap (λ (x : State). (rounds m x).1) b)

module _ (s v t : State) (i : ℕ) (h : i < 4) (same : v ≡ s) (before : try_rules (drop i all_rules) s ≡ try_rules all_rules s) where
  step : (o : Outcome) → (o, t) ≡ apply (get_or all_rules i CutToNext) v → try_on o t (try_rules (drop (i + 1) all_rules)) ≡ try_rules all_rules s
  step o e =
      ap (λ (p : Outcome × State). try_on p.0 p.1 (try_rules (drop (i + 1) all_rules))) (e ∙ ap (apply (get_or all_rules i CutToNext)) same)
      ∙ (sym (ap (λ rs. try_rules rs s) (drop_more all_rules i CutToNext h)) ∙ before)

  pub step_applied : (Applied, t) ≡ apply (get_or all_rules i CutToNext) v → try_rules all_rules s ≡ (true, t)
  step_applied e = sym (step Applied e)

  pub step_stopped : (Stopped, t) ≡ apply (get_or all_rules i CutToNext) v → try_rules all_rules s ≡ (false, t)
  step_stopped e = sym (step Stopped e)

  pub step_passed : (Passed, t) ≡ apply (get_or all_rules i CutToNext) v → try_rules (drop (i + 1) all_rules) t ≡ try_rules all_rules s
  step_passed e = step Passed e

-- the derived equality with a place
pub place_eq : (at : ℕ) (p : Place) (b : Bool) → b ≡ ghosts.eq p (At at) → is_at at p ≡ b
place_eq at Nowhere b e = sym e
place_eq at (At n) b e = sym e
place_eq at (AliasOf l) b e = sym e

-- where one label more stands at the branch than were counted
pub stood_some : (s : State) (b : Branch) (xs : List Label) (i n : ℕ) → b ≡ last_branch s → xs ≡ s.labels → i < length xs → n ≡ standing b.start (take i xs) → is_at b.start (get_or xs i (unbound false)).place ≡ true → n + 1 ≤ standing (last_branch s).start s.labels
stood_some s b xs i n p q h e t =
    let more = count_by_more_yes (λ (x : Label). is_at b.start x.place) xs i (unbound false) h t in
    let part = sum_by-take-le (λ (x : Label). cond (is_at b.start x.place) 1 0) xs (i + 1) in
    let whole : standing b.start xs ≡ standing (last_branch s).start s.labels = ap (λ (x : Branch). standing x.start xs) p ∙ ap (standing (last_branch s).start) q in
    omega arith

-- what each outcome says of the tables
module _ (r : Rule) (s v t : State) (same : v ≡ s) where
  pub passed_same : (Passed, t) ≡ apply r v → t ≡ s
  passed_same e = ap (λ (p : Outcome × State). p.1) e ∙ (apply_passed r v (sym (ap (λ (p : Outcome × State). p.0) e)) ∙ same)

  pub stopped_same : (Stopped, t) ≡ apply r v → t ≡ s
  stopped_same e = ap (λ (p : Outcome × State). p.1) e ∙ (apply_stopped r v (sym (ap (λ (p : Outcome × State). p.0) e)) ∙ same)

  pub applied_falls : (Applied, t) ≡ apply r v → 0 < length s.branches → fuel t < fuel s
  applied_falls e h =
      let k : (Applied, t) ≡ apply r s = e ∙ ap (apply r) same in
      subst (λ (x : State). fuel x < fuel s) (sym (ap (λ (p : Outcome × State). p.1) k)) (apply_falls r s h (sym (ap (λ (p : Outcome × State). p.0) k)))
