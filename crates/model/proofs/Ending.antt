-- Simplifying ends: each rule that applies takes a branch away, or makes a label that stands somewhere an alias.
use Rattle.std.proofs.Common.{◌≡◌, ℕ, zero, suc, ◌+◌, ◌-◌, ◌<◌, ◌≤◌, Bool, true, false, cond, ◌&&◌, eqb, ltb, List, [], ◌∷◌, map, length, is_some, Result, refl, ap, ◌∙◌, arith, length-set, length-take}
use Rattle.std.proofs.ByRecursion.{All-get_or}
use Rattle.std.proofs.lemmas.List.Sums.{sum_by-cons}
use Rattle.std.proofs.lemmas.Bool.{ltb-true, false≢true, cond-true, cond-false, cond_both}
use Rattle.isa.specs.Isa.{Isa}
use Rattle.model.specs.declared.refusals.Refusal.{Refusal}
use Rattle.model.specs.declared.rows.Branch.{Branch}
use Rattle.model.specs.declared.rows.Label.{Label}
use Rattle.model.specs.declared.rows.Place.{Place}
use Rattle.model.specs.declared.rows.Place.TheVariants.{Nowhere, At, AliasOf}
use Rattle.model.specs.Capacities.{max_code}
use Rattle.model.specs.State.{State, cur_offset, is_open, with_branches}
use Rattle.model.specs.Labels.{offset_in, is_at, moved, aliased, standing, bound_count}
use Rattle.model.specs.Simplify.{no_branch, last_branch, has_labels, cut, redirect, turn, round, rounds, all_rounds, forgotten, simplified}
use Rattle.model.specs.Calls.{optimize_branches}
use Rattle.model.specs.Steps.{OptimizeBranches, step}
use Rattle.model.specs.Runs.{Run, next}
use Rattle.model.proofs.Cases.{either}
use Rattle.model.proofs.Rounds.{Taken, round_ways, round_keeps}
use Rattle.model.proofs.Steady.{Steady, last_stands, rules_keep_steady}

abbrev one : Bool → ℕ
one b = cond b 1 0

moved_one : (from to : ℕ) (p : Place) → one (is_some (offset_in (cond (is_at from p) (At to) p))) ≤ one (is_some (offset_in p))
moved_one from to Nowhere = omega arith
moved_one from to (At n) = either (λ (r : Place). one (is_some (offset_in r)) ≤ 1) (eqb n from) _ _ (omega arith) (omega arith)
moved_one from to (AliasOf l) = omega arith

aliased_one : (at target : ℕ) (p : Place) → one (is_some (offset_in (cond (is_at at p) (AliasOf target) p))) + one (is_at at p) ≤ one (is_some (offset_in p))
aliased_one at target Nowhere = omega arith
aliased_one at target (At n) = elim (eqb n at) as (λ b. one (is_some (offset_in (cond b (AliasOf target) (At n)))) + one b ≤ 1) [ true ↦ omega arith | false ↦ omega arith ]
aliased_one at target (AliasOf l) = omega arith

pub bound_moved : (from to : ℕ) (xs : List Label) → bound_count (map (moved from to) xs) ≤ bound_count xs
bound_moved from to [] = omega arith
bound_moved from to (x ∷ xs) =
    let count : Label → ℕ = λ y. one (is_some (offset_in y.place)) in
    omega (arith, bound_moved from to xs, moved_one from to x.place, sum_by-cons count x xs, sum_by-cons count (moved from to x) (map (moved from to) xs))

pub bound_aliased : (at target : ℕ) (xs : List Label) → bound_count (map (aliased at target) xs) + standing at xs ≤ bound_count xs
bound_aliased at target [] = omega arith
bound_aliased at target (x ∷ xs) =
    let count : Label → ℕ = λ y. one (is_some (offset_in y.place)) in
    let here : Label → ℕ = λ y. one (is_at at y.place) in
    omega (arith, bound_aliased at target xs, aliased_one at target x.place, sum_by-cons count x xs, sum_by-cons count (aliased at target x) (map (aliased at target) xs), sum_by-cons here x xs)

-- the standing branches and the labels that stand somewhere, together
abbrev pub rank : State → ℕ
rank s = length s.branches + bound_count s.labels

-- the branch that a round takes ends within the largest code
low : (s : State) → Steady s → Taken s → cur_offset s ≤ max_code
low s k t = rw (← t.at_end) (All-get_or (λ (b : Branch). b.end ≤ max_code) s.branches (length s.branches - 1) no_branch (omega (arith, t.some)) k.low)

cut_falls : (s : State) → Steady s → Taken s → rank (cut s) < rank s
cut_falls s k t =
    let c = low s k t in
    let m = bound_moved (cur_offset s) (last_branch s).start s.labels in
    let n = length-take (length s.branches - 1) s.branches in
    omega (arith, t.some)

redirect_falls : (s : State) → Steady s → Taken s → has_labels s ≡ true → rank (redirect s) < rank s
redirect_falls s k t h =
    let b = last_stands s k t in
    let c = low s k t in
    let m = bound_aliased (last_branch s).start (last_branch s).target s.labels in
    omega (arith, ltb-true _ _ h)

turn_falls : (s : State) (n l : ℕ) → Steady s → Taken s → rank (turn (cut s) n l) < rank s
turn_falls s n l k t = let c = cut_falls s k t in simp length-set (omega arith)

-- a round that applied a rule
round_falls : (s : State) → Steady s → (round s).again ≡ true → rank (round s).state < rank s
round_falls s k =
    round_ways (λ r. r.again ≡ true → rank r.state < rank s) s (λ e. absurd (false≢true e))
    (λ t _. cut_falls s k t) (λ t h _. redirect_falls s k t h) (λ t a _. turn_falls s _ _ k t)

-- where no rule applies, rounds change nothing
pub rounds_idle : (n : ℕ) (s : State) → (round s).again ≡ false → (rounds n s).1 ≡ s
rounds_idle zero s e = refl
rounds_idle (suc n) s e = rw e

-- where no branch stands, no rule applies
bare_idle : (s : State) → length s.branches ≡ 0 → (round s).again ≡ false
bare_idle s e = round_ways (λ r. r.again ≡ false) s refl (λ t. absurd (omega (arith, t.some))) (λ t _. absurd (omega (arith, t.some))) (λ t _. absurd (omega (arith, t.some)))

rounds_end : (n : ℕ) (s : State) → Steady s → rank s ≤ n → (round (rounds n s).1).again ≡ false
rounds_end zero s k h = bare_idle s (omega arith)
rounds_end (suc n) s k h =
    cond_both (round s).again _ _ (λ (r : ℕ × State). (round r.1).again ≡ false)
    (λ e. rounds_end n (round s).state (round_keeps rules_keep_steady s k) (omega (arith, round_falls s k e))) (λ e. e)

-- after all rounds no rule applies
pub all_rounds_end : (s : State) → Steady s → (round (all_rounds s).1).again ≡ false
all_rounds_end s k = rounds_end (rank s) s k (omega arith)

-- forgetting the branches twice is forgetting them once
forgotten_twice : (s : State) → forgotten (forgotten s) ≡ forgotten s
forgotten_twice s = cond_both (ltb 0 (length s.branches) && ltb (last_branch s).end (cur_offset s)) (with_branches s []) s (λ r. forgotten r ≡ r) (λ _. refl) (λ e. cond-false _ (with_branches s []) s e)

forgotten_idle : (s : State) → (round s).again ≡ false → (round (forgotten s)).again ≡ false
forgotten_idle s e = either (λ r. (round r).again ≡ false) (ltb 0 (length s.branches) && ltb (last_branch s).end (cur_offset s)) (with_branches s []) s (bare_idle (with_branches s []) refl) e

-- simplifying twice is simplifying once
pub simplified_twice : (s : State) → Steady s → simplified false (simplified false s) ≡ simplified false s
simplified_twice s k =
    let r = (all_rounds s).1 in
    ap forgotten (rounds_idle (rank (forgotten r)) (forgotten r) (forgotten_idle r (all_rounds_end s k))) ∙ forgotten_twice r

optimized_twice : (s : State) → Steady s → (optimize_branches (optimize_branches s false).1 false).1 ≡ (optimize_branches s false).1
optimized_twice s k =
    let Same : Result (Unit {0}) Refusal × State → Type 0 = λ x. (optimize_branches x.1 false).1 ≡ x.1 in
    cond_both s.broken _ _ Same (λ e. ap (λ (x : Result (Unit {0}) Refusal × State). x.1) (cond-true s.broken _ _ e)) (λ b.
    cond_both (is_open s) _ _ Same (λ e. ap (λ (x : Result (Unit {0}) Refusal × State). x.1) (cond-false s.broken _ _ b ∙ cond-true (is_open s) _ _ e)) (λ _.
    let r = simplified false s in
    let Left : Result (Unit {0}) Refusal × State → Type 0 = λ x. x.1 ≡ r in
    either Left r.broken _ _ refl (either Left (is_open r) _ _ refl (simplified_twice s k))))

pub next_twice : (i : Isa) (r : Run) → Steady r.state → (next i (next i r (OptimizeBranches false)) (OptimizeBranches false)).state ≡ (next i r (OptimizeBranches false)).state
next_twice i r k =
    let c = OptimizeBranches false in
    cond_both r.finished _ _ (λ q. (next i q c).state ≡ q.state) (λ e. ap (λ (q : Run). q.state) (cond-true r.finished _ _ e)) (λ _.
    let s = (step i r.state c).1 in
    either (λ (q : Run). q.state ≡ s) _ _ _ refl (optimized_twice r.state k))
