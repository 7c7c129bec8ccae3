-- Islands within a bound are counted rightly, and where they come to an end, a larger bound changes nothing.
use Rattle.std.proofs.Common.{◌≡◌, ℕ, zero, suc, ◌+◌, ◌≤◌, Bool, true, false, ltb, ◌⊎◌, List, [], ◌∷◌, length, Some, None, Ok, Err, Option, Result, sym, refl, ap, ◌∙◌, subst, inl, inr, arith}
use Rattle.std.proofs.lemmas.Bool.{cases_Bool, cond_both, cond-true, cond-false}
use Rattle.isa.specs.Isa.{Isa}
use Rattle.model.specs.declared.rows.Fixup.{Fixup}
use Rattle.model.specs.declared.rows.DeferredTrap.{DeferredTrap}
use Rattle.model.specs.declared.rows.Fate.{Fate}
use Rattle.model.specs.declared.rows.Fate.TheVariants.{ToLabel, ToVeneer}
use Rattle.model.specs.declared.refusals.Refusal.{Refusal}
use Rattle.model.specs.Capacities.{max_code}
use Rattle.model.specs.State.{State, cur_offset, with_branches}
use Rattle.model.specs.Code.{aligned}
use Rattle.model.specs.Constants.{constant_row}
use Rattle.model.specs.Progress.{Progress, plus, go_on, then}
use Rattle.model.specs.Fates.{fate}
use Rattle.model.specs.Islands.{threshold, handled, is_ripe, less_fresh, less_held, fresh_step, fresh_pass, held_pass, reset_deadline, trap_step, traps_pass, constant_step, constants_pass, island}
use Rattle.model.specs.Finish.{is_busy, islands_within}
use Rattle.model.proofs.Cases.{either}
use Rattle.finish_laws.specs.Islands.{Islands, none, another}

-- the parts of an island count none
record Uncounted (p : Progress) : Type 0 where
  none_yet : p.islands ≡ 0

go_on_uncounted : (o : Option Refusal) (p : Progress) (next : State → Progress) → Uncounted p → ((r : State) → Uncounted (next r)) → Uncounted (go_on o p next)
go_on_uncounted None p next h f = record { none_yet = omega (arith, h.none_yet, (f p.state).none_yet) }
go_on_uncounted (Some e) p next h f = h

handled_uncounted : (i : Isa) (x : Result Fate Refusal) (s r : State) (f : Fixup) → Uncounted (handled i x s r f)
handled_uncounted i (Ok (ToLabel place)) s r f = record { none_yet = refl }
handled_uncounted i (Ok (ToVeneer at)) s r f = record { none_yet = refl }
handled_uncounted i (Err e) s r f = record { none_yet = refl }

module _ (i : Isa) (force : Bool) (t : ℕ) where
  fresh_uncounted : (fs : List Fixup) (s : State) → Uncounted (fresh_pass i force t fs s)
  fresh_uncounted [] s = record { none_yet = refl }
  fresh_uncounted (f ∷ fs) s =
      go_on_uncounted _ (fresh_step i force t s f) (λ r. fresh_pass i force t fs r)
      (either Uncounted (is_ripe i t s f) _ _ (handled_uncounted i (fate i force s f) s (less_fresh s) f) (record { none_yet = refl })) (λ r. fresh_uncounted fs r)

  held_uncounted : (fs : List Fixup) (s : State) → Uncounted (held_pass i force t fs s)
  held_uncounted [] s = record { none_yet = refl }
  held_uncounted (f ∷ fs) s =
      either Uncounted (is_ripe i t s f) _ _
      (go_on_uncounted _ (handled i (fate i force s f) s (less_held s) f) (λ r. held_pass i force t fs r) (handled_uncounted i (fate i force s f) s (less_held s) f) (λ r. held_uncounted fs r))
      (record { none_yet = refl })

traps_uncounted : (i : Isa) (ds : List DeferredTrap) (s : State) → Uncounted (traps_pass i ds s)
traps_uncounted i [] s = record { none_yet = refl }
traps_uncounted i (d ∷ ds) s = go_on_uncounted _ (trap_step i s d) (λ r. traps_pass i ds r) (either Uncounted (ltb max_code (aligned i.align (cur_offset s) + length i.trap)) _ _ (record { none_yet = refl }) (record { none_yet = refl })) (λ r. traps_uncounted i ds r)

constants_uncounted : (ns : List ℕ) (s : State) → Uncounted (constants_pass ns s)
constants_uncounted [] s = record { none_yet = refl }
constants_uncounted (n ∷ ns) s = go_on_uncounted _ (constant_step s n) (λ r. constants_pass ns r) (either Uncounted (ltb max_code (aligned (constant_row s n).align (cur_offset s) + (constant_row s n).size)) _ _ (record { none_yet = refl }) (record { none_yet = refl })) (λ r. constants_uncounted ns r)

-- a complete one counts as one
record CountsOne (p : Progress) : Type 0 where
  one : p.failed ≡ None → p.islands ≡ 1

go_on_counts : (o : Option Refusal) (p : Progress) (next : State → Progress) → p.failed ≡ o → Uncounted p → ((r : State) → CountsOne (next r)) → CountsOne (go_on o p next)
go_on_counts None p next e h f = record { one = λ z. omega (arith, h.none_yet, (f p.state).one z) }
go_on_counts (Some x) p next e h f = record { one = λ z. let y : ◌≡◌ {A = ℕ} 0 1 = cc in absurd (omega arith) }

island_counts : (i : Isa) (force : Bool) (distance : ℕ) (s : State) → CountsOne (island i force distance s)
island_counts i force distance s =
    let t = threshold i s distance in
    go_on_counts _ _ _ refl (fresh_uncounted i force t s.fresh (with_branches s [])) (λ a.
    go_on_counts _ _ _ refl (held_uncounted i force t a.held (reset_deadline i a)) (λ b.
    go_on_counts _ _ _ refl (traps_uncounted i b.deferred b) (λ c.
    go_on_counts _ _ _ refl (constants_uncounted c.requested c) (λ d. record { one = λ _. refl }))))

-- so many islands lead to where these have come, if none failed
record Counted (i : Isa) (force : Bool) (n : ℕ) (s : State) (p : Progress) : Type 0 where
  bounded : p.failed ≡ None → p.islands ≤ n
  islands : p.failed ≡ None → Islands i force p.islands s p.state

module _ (i : Isa) (force : Bool) where
  another_counted : (n : ℕ) (s : State) (next : State → Progress) (o : Option Refusal) → is_busy s ≡ true → (island i force 0 s).failed ≡ o → Counted i force n (island i force 0 s).state (next (island i force 0 s).state) → Counted i force (suc n) s (go_on o (island i force 0 s) next)
  another_counted n s next None busy e c =
      let p = island i force 0 s in
      let q = next p.state in
      let one : p.islands ≡ 1 = (island_counts i force 0 s).one e in
      record {
        bounded = λ z. omega (arith, c.bounded z);
        islands = λ z. subst (λ (k : ℕ). Islands i force k s q.state) (omega arith) (another busy e (c.islands z));
      }
  another_counted n s next (Some x) busy e c = record { bounded = λ z. let y : ◌≡◌ {A = ℕ} 0 1 = cc in absurd (omega arith); islands = λ z. let y : ◌≡◌ {A = ℕ} 0 1 = cc in absurd (omega arith) }

  islands_counted : (n : ℕ) (s : State) → Counted i force n s (islands_within i force n s)
  islands_counted zero s = record { bounded = λ _. omega arith; islands = λ _. none }
  islands_counted (suc n) s =
      cond_both (is_busy s) _ _ (Counted i force (suc n) s)
      (λ busy. another_counted n s (λ r. islands_within i force n r) (island i force 0 s).failed busy refl (islands_counted n (island i force 0 s).state))
      (λ _. record { bounded = λ _. omega arith; islands = λ _. none })

  -- they are no more than allowed, and counted
  pub within_bound : (n : ℕ) (s : State) → (islands_within i force n s).failed ≡ None → (islands_within i force n s).islands ≤ n
  within_bound n s = (islands_counted n s).bounded

  pub so_many : (n : ℕ) (s : State) → (islands_within i force n s).failed ≡ None → Islands i force (islands_within i force n s).islands s (islands_within i force n s).state
  so_many n s = (islands_counted n s).islands

-- they failed, or nothing is left to do
abbrev pub ComesToEnd : Progress → Type 0
ComesToEnd p = p.failed ≡ None → is_busy p.state ≡ false

module _ (i : Isa) (force : Bool) where
  on_same : (p : Progress) (f g : State → Progress) (o : Option Refusal) → (ComesToEnd (f p.state) → g p.state ≡ f p.state) → ComesToEnd (go_on o p f) → go_on o p g ≡ go_on o p f
  on_same p f g None h e = ap (plus p) (h e)
  on_same p f g (Some x) h e = refl

  -- where islands within a bound come to an end, a larger bound changes nothing
  pub larger_bound : (n m : ℕ) (s : State) → n ≤ m → ComesToEnd (islands_within i force n s) → islands_within i force m s ≡ islands_within i force n s
  larger_bound zero zero s l e = refl
  larger_bound zero (suc m) s l e = cond-false (is_busy s) _ _ (e refl)
  larger_bound (suc n) zero s l e = absurd (omega arith)
  larger_bound (suc n) (suc m) s l e = by (larger_bound n m (island i force 0 s).state (omega arith)) (cases_Bool (is_busy s))
    where
      by : (ComesToEnd (islands_within i force n (island i force 0 s).state) → islands_within i force m (island i force 0 s).state ≡ islands_within i force n (island i force 0 s).state) → (is_busy s ≡ true) ⊎ (is_busy s ≡ false) → islands_within i force (suc m) s ≡ islands_within i force (suc n) s
      by same (inr idle) = cond-false (is_busy s) _ _ idle ∙ sym (cond-false (is_busy s) _ _ idle)
      by same (inl busy) =
          let p = island i force 0 s in
          let a : islands_within i force (suc n) s ≡ then p (λ r. islands_within i force n r) = cond-true (is_busy s) _ _ busy in
          let b : islands_within i force (suc m) s ≡ then p (λ r. islands_within i force m r) = cond-true (is_busy s) _ _ busy in
          b ∙ on_same p (λ r. islands_within i force n r) (λ r. islands_within i force m r) p.failed same (subst ComesToEnd a e) ∙ sym a
