-- Islands lose no use: the fixups that waited and those of the veneers made are patched or wait.
use Rattle.std.proofs.Common.{◌≡◌, ℕ, zero, suc, ◌+◌, ◌≤◌, Bool, List, [], ◌∷◌, length, Some, None, Ok, Err, Option, Result, refl, ap, ◌∙◌, arith, length-append, length-drop}
use Rattle.isa.specs.Isa.{Isa}
use Rattle.model.specs.declared.rows.Fixup.{Fixup}
use Rattle.model.specs.declared.rows.DeferredTrap.{DeferredTrap}
use Rattle.model.specs.declared.rows.Fate.{Fate}
use Rattle.model.specs.declared.rows.Fate.TheVariants.{ToLabel, ToVeneer}
use Rattle.model.specs.declared.refusals.Refusal.{Refusal}
use Rattle.model.specs.State.{State, with_branches}
use Rattle.model.specs.Fixups.{waiting, comes_before, insert_held}
use Rattle.model.specs.Progress.{Progress, reached, go_on, then}
use Rattle.model.specs.Fates.{fate}
use Rattle.model.specs.Islands.{threshold, handled, is_ripe, less_fresh, less_held, fresh_step, fresh_pass, held_pass, reset_deadline, trap_step, traps_pass, constant_step, constants_pass, completed, island}
use Rattle.model.specs.Finish.{islands_within}
use Rattle.model.proofs.Cases.{either}
use Rattle.model.proofs.Removed.{Sound}

-- a part of an island
record Fair (s : State) (p : Progress) : Type 0 where
  even : p.made + waiting s ≡ p.patched + waiting p.state
  branches : p.state.branches ≡ s.branches

-- one fixup handled or put aside
record Single (s : State) (p : Progress) : Type 0 where
  fair : Fair s p
  fresh_left : length s.fresh ≤ 1 + length p.state.fresh
  held_left : length s.held ≤ 1 + length p.state.held

go_on_fair : (o : Option Refusal) (s : State) (p : Progress) (next : State → Progress) → Fair s p → Fair p.state (next p.state) → Fair s (go_on o p next)
go_on_fair None s p next f g = record { even = omega (arith, f.even, g.even); branches = g.branches ∙ f.branches }
go_on_fair (Some e) s p next f g = f

handled_fresh : (i : Isa) (x : Result Fate Refusal) (s : State) (f : Fixup) → 1 ≤ length s.fresh → Single s (handled i x s (less_fresh s) f)
handled_fresh i (Ok (ToLabel place)) s f h = record { fair = record { even = simp length-drop (omega arith); branches = refl }; fresh_left = simp length-drop (omega arith); held_left = omega arith }
handled_fresh i (Ok (ToVeneer at)) s f h = record { fair = record { even = simp (length-append, length-drop) (omega arith); branches = refl }; fresh_left = simp (length-append, length-drop) (omega arith); held_left = omega arith }
handled_fresh i (Err e) s f h = record { fair = record { even = refl; branches = refl }; fresh_left = omega arith; held_left = omega arith }

handled_held : (i : Isa) (x : Result Fate Refusal) (s : State) (f : Fixup) → 1 ≤ length s.held → Single s (handled i x s (less_held s) f)
handled_held i (Ok (ToLabel place)) s f h = record { fair = record { even = simp length-drop (omega arith); branches = refl }; fresh_left = omega arith; held_left = simp length-drop (omega arith) }
handled_held i (Ok (ToVeneer at)) s f h = record { fair = record { even = simp (length-append, length-drop) (omega arith); branches = refl }; fresh_left = simp length-append (omega arith); held_left = simp length-drop (omega arith) }
handled_held i (Err e) s f h = record { fair = record { even = refl; branches = refl }; fresh_left = omega arith; held_left = omega arith }

pub length-insert : (f : Fixup) (gs : List Fixup) → length (insert_held f gs) ≡ suc (length gs)
length-insert f [] = refl
length-insert f (g ∷ gs) = either (λ (r : List Fixup). length r ≡ suc (suc (length gs))) (comes_before f g) _ _ refl (ap suc (length-insert f gs))

fresh_step_fair : (i : Isa) (force : Bool) (t : ℕ) (s : State) (f : Fixup) → 1 ≤ length s.fresh → Single s (fresh_step i force t s f)
fresh_step_fair i force t s f h =
    either (Single s) (is_ripe i t s f) _ _ (handled_fresh i (fate i force s f) s f h)
    (record { fair = record { even = simp (length-drop, length-insert) (omega arith); branches = refl }; fresh_left = simp length-drop (omega arith); held_left = simp length-insert (omega arith) })

fresh_pass_fair : (i : Isa) (force : Bool) (t : ℕ) (fs : List Fixup) (s : State) → length fs ≤ length s.fresh → Fair s (fresh_pass i force t fs s)
fresh_pass_fair i force t [] s h = record { even = refl; branches = refl }
fresh_pass_fair i force t (f ∷ fs) s h =
    let p = fresh_step i force t s f in
    let o : Single s p = fresh_step_fair i force t s f (omega arith) in
    go_on_fair p.failed s p (λ r. fresh_pass i force t fs r) o.fair (fresh_pass_fair i force t fs p.state (omega (arith, o.fresh_left)))

held_pass_fair : (i : Isa) (force : Bool) (t : ℕ) (fs : List Fixup) (s : State) → length fs ≤ length s.held → Fair s (held_pass i force t fs s)
held_pass_fair i force t [] s h = record { even = refl; branches = refl }
held_pass_fair i force t (f ∷ fs) s h =
    let p = handled i (fate i force s f) s (less_held s) f in
    let o : Single s p = handled_held i (fate i force s f) s f (omega arith) in
    either (Fair s) (is_ripe i t s f) _ _
    (go_on_fair p.failed s p (λ r. held_pass i force t fs r) o.fair (held_pass_fair i force t fs p.state (omega (arith, o.held_left))))
    (record { even = refl; branches = refl })

-- nothing made, nothing patched, and the fixups and branches as they were
aside : (s : State) (p : Progress) → p.made ≡ 0 → p.patched ≡ 0 → p.state.fresh ≡ s.fresh → p.state.held ≡ s.held → p.state.branches ≡ s.branches → Fair s p
aside s p m n f h b = record { even = rw (m, n, f, h); branches = b }

trap_step_fair : (i : Isa) (s : State) (d : DeferredTrap) → Fair s (trap_step i s d)
trap_step_fair i s d = search (either (Fair s), aside)

traps_pass_fair : (i : Isa) (ds : List DeferredTrap) (s : State) → Fair s (traps_pass i ds s)
traps_pass_fair i [] s = record { even = refl; branches = refl }
traps_pass_fair i (d ∷ ds) s =
    let p = trap_step i s d in
    go_on_fair p.failed s p (λ r. traps_pass i ds r) (trap_step_fair i s d) (traps_pass_fair i ds p.state)

constant_step_fair : (s : State) (n : ℕ) → Fair s (constant_step s n)
constant_step_fair s n = search (either (Fair s), aside)

constants_pass_fair : (ns : List ℕ) (s : State) → Fair s (constants_pass ns s)
constants_pass_fair [] s = record { even = refl; branches = refl }
constants_pass_fair (n ∷ ns) s =
    let p = constant_step s n in
    go_on_fair p.failed s p (λ r. constants_pass ns r) (constant_step_fair s n) (constants_pass_fair ns p.state)

-- an island from its constants on, from its traps on, and from its held fixups on
abbrev constants_on : State → Progress
constants_on c = then (constants_pass c.requested c) completed

abbrev traps_on : Isa → State → Progress
traps_on i b = then (traps_pass i b.deferred b) constants_on

abbrev held_on : Isa → Bool → ℕ → State → Progress
held_on i force t a = then (held_pass i force t a.held (reset_deadline i a)) (traps_on i)

constants_on_fair : (s : State) → Fair s (constants_on s)
constants_on_fair s =
    let p = constants_pass s.requested s in
    go_on_fair p.failed s p completed (constants_pass_fair s.requested s) (record { even = refl; branches = refl })

traps_on_fair : (i : Isa) (s : State) → Fair s (traps_on i s)
traps_on_fair i s =
    let p = traps_pass i s.deferred s in
    go_on_fair p.failed s p constants_on (traps_pass_fair i s.deferred s) (constants_on_fair p.state)

held_on_fair : (i : Isa) (force : Bool) (t : ℕ) (s : State) → Fair s (held_on i force t s)
held_on_fair i force t s =
    let p = held_pass i force t s.held (reset_deadline i s) in
    let f : Fair (reset_deadline i s) p = held_pass_fair i force t s.held (reset_deadline i s) (omega arith) in
    go_on_fair p.failed s p (traps_on i) (record { even = f.even; branches = f.branches }) (traps_on_fair i p.state)

island_fair : (i : Isa) (force : Bool) (distance : ℕ) (s : State) → Fair (with_branches s []) (island i force distance s)
island_fair i force distance s =
    let t = threshold i s distance in
    let p = fresh_pass i force t s.fresh (with_branches s []) in
    go_on_fair p.failed (with_branches s []) p (held_on i force t) (fresh_pass_fair i force t s.fresh (with_branches s []) (omega arith)) (held_on_fair i force t p.state)

-- whole islands, or broken-off ones
pub record Leaves (s : State) (p : Progress) : Type 0 where
  pub even : p.made + waiting s ≡ p.patched + waiting p.state
  pub sound : Sound p.state

pub island_leaves : (i : Isa) (force : Bool) (distance : ℕ) (s : State) → Leaves s (island i force distance s)
island_leaves i force distance s =
    let f = island_fair i force distance s in
    record { even = f.even; sound = rw f.branches (omega arith) }

go_on_leaves : (o : Option Refusal) (s : State) (p : Progress) (next : State → Progress) → Leaves s p → Leaves p.state (next p.state) → Leaves s (go_on o p next)
go_on_leaves None s p next f g = record { even = omega (arith, f.even, g.even); sound = g.sound }
go_on_leaves (Some e) s p next f g = f

pub islands_leave : (i : Isa) (force : Bool) (n : ℕ) (s : State) → Sound s → Leaves s (islands_within i force n s)
islands_leave i force zero s k = record { even = refl; sound = k }
islands_leave i force (suc n) s k =
    let p = island i force 0 s in
    let f : Leaves s p = island_leaves i force 0 s in
    let more : Leaves s (go_on p.failed p (λ r. islands_within i force n r)) = go_on_leaves p.failed s p (λ r. islands_within i force n r) f (islands_leave i force n p.state f.sound) in
    let none : Leaves s (reached s) = record { even = refl; sound = k } in
    search (either (Leaves s))
