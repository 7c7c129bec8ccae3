-- Islands and finishing keep the tables sound, and no label goes forward.
use Rattle.std.proofs.Common.{◌≡◌, ℕ, zero, suc, ◌+◌, Bool, ltb, List, [], ◌∷◌, length, drop, Some, None, Ok, Err, Option, Result, refl, ap}
use Rattle.std.specs.List.{AllByRecursion}
use Rattle.std.proofs.ByRecursion.{All-drop, All-push}
use Rattle.isa.specs.Isa.{Isa}
use Rattle.model.specs.declared.rows.Fixup.{Fixup}
use Rattle.model.specs.declared.rows.DeferredTrap.{DeferredTrap}
use Rattle.model.specs.declared.rows.Fate.{Fate}
use Rattle.model.specs.declared.rows.Fate.TheVariants.{ToLabel, ToVeneer}
use Rattle.model.specs.declared.refusals.Refusal.{Refusal}
use Rattle.model.specs.declared.refusals.Refusal.TheVariants.{CodeFull}
use Rattle.model.specs.Capacities.{max_code}
use Rattle.model.specs.State.{State, cur_offset, with_held, with_branches, with_deferred, with_requested}
use Rattle.model.specs.Code.{aligned}
use Rattle.model.specs.Fixups.{comes_before, insert_held}
use Rattle.model.specs.Constants.{constant_row}
use Rattle.model.specs.Progress.{Progress, reached, breaks_off, go_on, then}
use Rattle.model.specs.Fates.{fate}
use Rattle.model.specs.Islands.{threshold, handled, is_ripe, less_fresh, less_held, fresh_step, fresh_pass, held_pass, reset_deadline, write_trap, traps_pass, place_constant, constants_pass, completed, island}
use Rattle.model.specs.Finish.{is_busy, islands_within}
use Rattle.model.proofs.Cases.{either}
use Rattle.label_laws.specs.Sound.{UseAmong, Tables, Sound, Goes}
use Rattle.label_laws.proofs.Tables.{uses_among, trap_keeps, trap_written, constant_keeps, constant_placed}
use Rattle.label_laws.proofs.Goes.{goes_same, goes_on, goes_beside}
use Rattle.label_laws.proofs.Simplified.{forget_goes}

-- a part of an island
pub record Gets (s : State) (p : Progress) : Type 0 where
  pub holds : Goes s p.state

reaches : (s : State) → Sound s → Gets s (reached s)
reaches s k = record { holds = goes_same s k }

go_on_gets : (o : Option Refusal) (s : State) (p : Progress) (next : State → Progress) → Gets s p → Gets p.state (next p.state) → Gets s (go_on o p next)
go_on_gets None s p next f g = record { holds = goes_on s p.state _ f.holds g.holds }
go_on_gets (Some e) s p next f g = f

handled_gets : (i : Isa) (x : Result Fate Refusal) (s r : State) (f : Fixup) → Sound s → Goes s r → UseAmong (length r.labels) f → Gets s (handled i x s r f)
handled_gets i (Ok (ToLabel place)) s r f k g u = record { holds = record { sound = g.sound; later = g.later } }
handled_gets i (Ok (ToVeneer at)) s r f k g u =
    let t = g.sound in
    record {
      holds = record {
        sound = record { labels = t.labels; branches = t.branches; fresh = All-push (UseAmong (length r.labels)) r.fresh _ t.fresh u; held = t.held; waits = t.waits; apart = t.apart };
        later = g.later;
      };
    }
handled_gets i (Err e) s r f k g u = record { holds = goes_same s k }

less_fresh_goes : (s : State) → Sound s → Goes s (less_fresh s)
less_fresh_goes s k = goes_beside s (less_fresh s) k (record { labels = k.labels; branches = k.branches; fresh = All-drop (UseAmong (length s.labels)) 1 s.fresh k.fresh; held = k.held; waits = k.waits; apart = k.apart }) refl

less_held_goes : (s : State) → Sound s → Goes s (less_held s)
less_held_goes s k = goes_beside s (less_held s) k (record { labels = k.labels; branches = k.branches; fresh = k.fresh; held = All-drop (UseAmong (length s.labels)) 1 s.held k.held; waits = k.waits; apart = k.apart }) refl

all_insert : (n : ℕ) (f : Fixup) (gs : List Fixup) → UseAmong n f → AllByRecursion (UseAmong n) gs → AllByRecursion (UseAmong n) (insert_held f gs)
all_insert n f [] u a = (u, tt)
all_insert n f (g ∷ gs) u a = either (AllByRecursion (UseAmong n)) (comes_before f g) _ _ (u, a) (a.0, all_insert n f gs u a.1)

put_aside_goes : (s : State) (f : Fixup) → UseAmong (length s.labels) f → Sound s → Goes s (with_held (less_fresh s) (insert_held f s.held))
put_aside_goes s f u k =
    let t = (less_fresh_goes s k).sound in
    goes_beside s (with_held (less_fresh s) (insert_held f s.held)) k (record { labels = t.labels; branches = t.branches; fresh = t.fresh; held = all_insert (length s.labels) f s.held u k.held; waits = t.waits; apart = t.apart }) refl

fresh_step_gets : (i : Isa) (force : Bool) (t : ℕ) (s : State) (f : Fixup) → UseAmong (length s.labels) f → Sound s → Gets s (fresh_step i force t s f)
fresh_step_gets i force t s f u k = either (Gets s) (is_ripe i t s f) _ _ (handled_gets i (fate i force s f) s (less_fresh s) f k (less_fresh_goes s k) u) (record { holds = put_aside_goes s f u k })

fresh_pass_gets : (i : Isa) (force : Bool) (t : ℕ) (fs : List Fixup) (s : State) → AllByRecursion (UseAmong (length s.labels)) fs → Sound s → Gets s (fresh_pass i force t fs s)
fresh_pass_gets i force t [] s u k = reaches s k
fresh_pass_gets i force t (f ∷ fs) s u k =
    let p = fresh_step i force t s f in
    let g : Gets s p = fresh_step_gets i force t s f u.0 k in
    let v = uses_among (length s.labels) (length p.state.labels) g.holds.later.more fs u.1 in
    go_on_gets p.failed s p (λ r. fresh_pass i force t fs r) g (fresh_pass_gets i force t fs p.state v g.holds.sound)

held_pass_gets : (i : Isa) (force : Bool) (t : ℕ) (fs : List Fixup) (s : State) → AllByRecursion (UseAmong (length s.labels)) fs → Sound s → Gets s (held_pass i force t fs s)
held_pass_gets i force t [] s u k = reaches s k
held_pass_gets i force t (f ∷ fs) s u k =
    let p = handled i (fate i force s f) s (less_held s) f in
    let g : Gets s p = handled_gets i (fate i force s f) s (less_held s) f k (less_held_goes s k) u.0 in
    let v = uses_among (length s.labels) (length p.state.labels) g.holds.later.more fs u.1 in
    either (Gets s) (is_ripe i t s f) _ _ (go_on_gets p.failed s p (λ r. held_pass i force t fs r) g (held_pass_gets i force t fs p.state v g.holds.sound)) (reaches s k)

-- the traps of a list, which are the deferred ones
trap_goes : (i : Isa) (s : State) (d : DeferredTrap) (ds : List DeferredTrap) (at : ℕ) → s.deferred ≡ d ∷ ds → Sound s → Goes s (write_trap i (with_deferred s (drop 1 s.deferred)) d at)
trap_goes i s d ds at e k =
    let t : Tables s.labels s.branches s.fresh s.held (d ∷ ds) s.constants s.requested = rw e at k in
    record { sound = rw e (trap_written s.labels s.branches s.fresh s.held ds s.constants s.requested d at t); later = (trap_keeps s.labels s.branches s.fresh s.held ds s.constants s.requested d at t).later }

traps_pass_gets : (i : Isa) (ds : List DeferredTrap) (s : State) → s.deferred ≡ ds → Sound s → Gets s (traps_pass i ds s)
traps_pass_gets i [] s e k = reaches s k
traps_pass_gets i (d ∷ ds) s e k =
    let at = aligned i.align (cur_offset s) in
    let r = write_trap i (with_deferred s (drop 1 s.deferred)) d at in
    let g : Gets s (reached r) = record { holds = trap_goes i s d ds at e k } in
    either (λ (p : Progress). Gets s (then p (λ q. traps_pass i ds q))) (ltb max_code (at + length i.trap)) (breaks_off CodeFull s) (reached r)
    (record { holds = goes_same s k })
    (go_on_gets None s (reached r) (λ q. traps_pass i ds q) g (traps_pass_gets i ds r (ap (drop 1) e) g.holds.sound))

-- the constants of a list, which are the requested ones
constant_goes : (s : State) (n : ℕ) (ns : List ℕ) (at : ℕ) → s.requested ≡ n ∷ ns → Sound s → Goes s (place_constant (with_requested s (drop 1 s.requested)) n at)
constant_goes s n ns at e k =
    let t : Tables s.labels s.branches s.fresh s.held s.deferred s.constants (n ∷ ns) = rw e at k in
    record { sound = rw e (constant_placed s.labels s.branches s.fresh s.held s.deferred s.constants ns n at _ t); later = (constant_keeps s.labels s.branches s.fresh s.held s.deferred s.constants ns n at t).later }

constants_pass_gets : (ns : List ℕ) (s : State) → s.requested ≡ ns → Sound s → Gets s (constants_pass ns s)
constants_pass_gets [] s e k = reaches s k
constants_pass_gets (n ∷ ns) s e k =
    let at = aligned (constant_row s n).align (cur_offset s) in
    let r = place_constant (with_requested s (drop 1 s.requested)) n at in
    let g : Gets s (reached r) = record { holds = constant_goes s n ns at e k } in
    either (λ (p : Progress). Gets s (then p (λ q. constants_pass ns q))) (ltb max_code (at + (constant_row s n).size)) (breaks_off CodeFull s) (reached r)
    (record { holds = goes_same s k })
    (go_on_gets None s (reached r) (λ q. constants_pass ns q) g (constants_pass_gets ns r (ap (drop 1) e) g.holds.sound))

-- an island from its constants on, from its traps on, and from its held fixups on
abbrev constants_on : State → Progress
constants_on c = then (constants_pass c.requested c) completed

abbrev traps_on : Isa → State → Progress
traps_on i b = then (traps_pass i b.deferred b) constants_on

abbrev held_on : Isa → Bool → ℕ → State → Progress
held_on i force t a = then (held_pass i force t a.held (reset_deadline i a)) (traps_on i)

constants_on_gets : (s : State) → Sound s → Gets s (constants_on s)
constants_on_gets s k =
    let p = constants_pass s.requested s in
    let g : Gets s p = constants_pass_gets s.requested s refl k in
    go_on_gets p.failed s p completed g (record { holds = goes_same p.state g.holds.sound })

traps_on_gets : (i : Isa) (s : State) → Sound s → Gets s (traps_on i s)
traps_on_gets i s k =
    let p = traps_pass i s.deferred s in
    let g : Gets s p = traps_pass_gets i s.deferred s refl k in
    go_on_gets p.failed s p constants_on g (constants_on_gets p.state g.holds.sound)

held_on_gets : (i : Isa) (force : Bool) (t : ℕ) (s : State) → Sound s → Gets s (held_on i force t s)
held_on_gets i force t s k =
    let p = held_pass i force t s.held (reset_deadline i s) in
    let g : Gets (reset_deadline i s) p = held_pass_gets i force t s.held (reset_deadline i s) k.held k in
    go_on_gets p.failed s p (traps_on i) (record { holds = record { sound = g.holds.sound; later = g.holds.later } }) (traps_on_gets i p.state g.holds.sound)

pub island_gets : (i : Isa) (force : Bool) (distance : ℕ) (s : State) → Sound s → Gets s (island i force distance s)
island_gets i force distance s k =
    let t = threshold i s distance in
    let f = forget_goes s k in
    let p = fresh_pass i force t s.fresh (with_branches s []) in
    let g : Gets (with_branches s []) p = fresh_pass_gets i force t s.fresh (with_branches s []) k.fresh f.sound in
    go_on_gets p.failed s p (held_on i force t) (record { holds = goes_on s (with_branches s []) p.state f g.holds }) (held_on_gets i force t p.state g.holds.sound)

pub islands_get : (i : Isa) (force : Bool) (n : ℕ) (s : State) → Sound s → Gets s (islands_within i force n s)
islands_get i force zero s k = reaches s k
islands_get i force (suc n) s k =
    let p = island i force 0 s in
    let g : Gets s p = island_gets i force 0 s k in
    either (Gets s) (is_busy s) _ _ (go_on_gets p.failed s p (λ r. islands_within i force n r) g (islands_get i force n p.state g.holds.sound)) (reaches s k)
