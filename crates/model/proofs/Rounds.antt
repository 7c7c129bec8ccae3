-- What every rule of simplifying keeps, simplifying keeps.
use Rattle.std.proofs.Common.{◌≡◌, ℕ, zero, suc, ◌-◌, ◌<◌, ◌≤◌, Bool, true, false, not, ◌&&◌, ◌||◌, eqb, ltb, [], length}
use Rattle.std.proofs.lemmas.Bool.{ltb-true, leb-true, eqb-true, and_parts, cond_both}
use Rattle.model.specs.State.{State, cur_offset, with_branches}
use Rattle.model.specs.Simplify.{is_conditional, last_branch, branch_before, target_of, adjoins, has_labels, cut, redirect, turn, takes_branch, Round, stop, applied, round, rounds, all_rounds, forgotten, simplified}
use Rattle.model.proofs.Cases.{either}

-- the branch that a round takes stands at the end of the code
pub record Taken (s : State) : Type 0 where
  pub some : 0 < length s.branches
  pub at_end : (last_branch s).end ≡ cur_offset s

-- the branch before it ends where it begins
pub record Adjoined (s : State) : Type 0 where
  pub two : 2 ≤ length s.branches
  pub touch : (branch_before s).end ≡ (last_branch s).start

-- what a round may do, and that a property P of the tables outlasts it
pub record RulesKeep (P : State → Type 0) : Type 0 where
  pub cuts : (s : State) → P s → Taken s → P (cut s)
  pub redirects : (s : State) → P s → Taken s → P (redirect s)
  pub turns : (s : State) → P s → Taken s → Adjoined s → P (turn (cut s) (length s.branches - 2) (last_branch s).target)

taken : (s : State) → takes_branch s ≡ true → Taken s
taken s e = let x = and_parts (ltb 0 (length s.branches) && eqb (last_branch s).end (cur_offset s)) _ e in let y = and_parts _ _ x.0 in record { some = ltb-true _ _ y.0; at_end = eqb-true _ _ y.1 }

adjoined : (s : State) → adjoins s ≡ true → Adjoined s
adjoined s e = let x = and_parts _ _ e in record { two = leb-true _ _ x.0; touch = eqb-true _ _ x.1 }

-- the ways of a round: a property of what it gives holds of all if it holds of each
pub round_ways : (Q : Round → Type 0) (s : State) → Q (stop s)
    → (Taken s → Q (applied 1 (cut s)))
    → (Taken s → has_labels s ≡ true → Q (applied 0 (redirect s)))
    → (Taken s → Adjoined s → Q (applied 1 (turn (cut s) (length s.branches - 2) (last_branch s).target)))
    → Q (round s)
round_ways Q s stops cuts redirects turns =
    cond_both (takes_branch s) _ _ Q (λ e. let t = taken s e in
    cond_both (eqb (target_of s (last_branch s)) (cur_offset s)) _ _ Q (λ _. cuts t) (λ _.
    cond_both (is_conditional (last_branch s) || eqb (target_of s (last_branch s)) (last_branch s).start) _ _ Q (λ _. stops) (λ _.
    cond_both (has_labels s) _ _ Q (λ h. redirects t h) (λ _.
    cond_both (adjoins s && not (is_conditional (branch_before s))) _ _ Q (λ _. cuts t) (λ _.
    cond_both (adjoins s && is_conditional (branch_before s) && eqb (target_of s (branch_before s)) (cur_offset s)) _ _ Q (λ e. turns t (adjoined s (and_parts _ _ (and_parts _ _ e).0).0)) (λ _. stops)))))) (λ _. stops)

module _ {P : State → Type 0} (w : RulesKeep P) where
  pub round_keeps : (s : State) → P s → P (round s).state
  round_keeps s p = round_ways (λ r. P r.state) s p (λ t. w.cuts s p t) (λ t _. w.redirects s p t) (λ t a. w.turns s p t a)

  pub rounds_keep : (n : ℕ) (s : State) → P s → P (rounds n s).1
  rounds_keep zero s p = p
  rounds_keep (suc n) s p = either (λ (r : ℕ × State). P r.1) (round s).again _ _ (rounds_keep n (round s).state (round_keeps s p)) p

  pub forgotten_keeps : ((s : State) → P s → P (with_branches s [])) → (s : State) → P s → P (forgotten s)
  forgotten_keeps f s p = either P (ltb 0 (length s.branches) && ltb (last_branch s).end (cur_offset s)) _ _ (f s p) p

  pub simplified_keeps : ((s : State) → P s → P (with_branches s [])) → (skip : Bool) (s : State) → P s → P (simplified skip s)
  simplified_keeps f true s p = p
  simplified_keeps f false s p = forgotten_keeps f (all_rounds s).1 (rounds_keep _ s p)
