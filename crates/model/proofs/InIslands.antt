-- What holds of the tables at the start of an island, and is kept by everything that an island does, holds after it, also where it
-- breaks off.
use Rattle.std.proofs.Common.{◌≡◌, ℕ, zero, suc, ◌+◌, ◌≤◌, Bool, List, [], ◌∷◌, length, Some, None, Option}
use Rattle.isa.specs.Isa.{Isa}
use Rattle.model.specs.declared.rows.Fixup.{Fixup}
use Rattle.model.specs.declared.rows.DeferredTrap.{DeferredTrap}
use Rattle.model.specs.declared.refusals.Refusal.{Refusal}
use Rattle.model.specs.Capacities.{max_code}
use Rattle.model.specs.State.{State, cur_offset, with_code, with_fresh, with_held, with_branches, with_deferred, with_requested}
use Rattle.model.specs.Code.{aligned}
use Rattle.model.specs.Fixups.{insert_held}
use Rattle.model.specs.Constants.{constant_row}
use Rattle.model.specs.Progress.{Progress, go_on}
use Rattle.model.specs.Fates.{patch_fixup, add_veneer}
use Rattle.model.specs.Islands.{reset_deadline, write_trap, place_constant, island}
use Rattle.model.proofs.Cases.{either}
use Rattle.model.specs.Finish.{is_busy, islands_within}
use Rattle.model.proofs.Passes.{Near, Veneered, KeptByIslands, any_uses, island_keeps}

-- What an island does, one thing after another, and that a property P of the tables outlasts it. No branches stand.
pub record InIslands (i : Isa) (P : State → Type 0) : Type 0 where
  pub forgot : (s : State) → P s → P (with_branches s [])
  pub patched_fresh : (s : State) (f : Fixup) (fs : List Fixup) (place : ℕ) → P s → s.branches ≡ [] → s.fresh ≡ f ∷ fs → Near i s f place → P (with_code (with_fresh s fs) (patch_fixup i s f place))
  pub veneered_fresh : (s : State) (f : Fixup) (fs : List Fixup) (at : ℕ) → P s → s.branches ≡ [] → s.fresh ≡ f ∷ fs → Veneered i s f at → P (add_veneer i (with_fresh s fs) f at)
  pub put_aside : (s : State) (f : Fixup) (fs : List Fixup) → P s → s.branches ≡ [] → s.fresh ≡ f ∷ fs → P (with_held (with_fresh s fs) (insert_held f s.held))
  pub patched_held : (s : State) (f : Fixup) (fs : List Fixup) (place : ℕ) → P s → s.branches ≡ [] → s.held ≡ f ∷ fs → Near i s f place → P (with_code (with_held s fs) (patch_fixup i s f place))
  pub veneered_held : (s : State) (f : Fixup) (fs : List Fixup) (at : ℕ) → P s → s.branches ≡ [] → s.held ≡ f ∷ fs → Veneered i s f at → P (add_veneer i (with_held s fs) f at)
  pub deadline_reset : (s : State) → P s → P (reset_deadline i s)
  pub trap_written : (s : State) (d : DeferredTrap) (ds : List DeferredTrap) → P s → s.branches ≡ [] → s.deferred ≡ d ∷ ds → aligned i.align (cur_offset s) + length i.trap ≤ max_code → P (write_trap i (with_deferred s ds) d (aligned i.align (cur_offset s)))
  pub constant_placed : (s : State) (n : ℕ) (ns : List ℕ) → P s → s.branches ≡ [] → s.requested ≡ n ∷ ns → aligned (constant_row s n).align (cur_offset s) + (constant_row s n).size ≤ max_code → P (place_constant (with_requested s ns) n (aligned (constant_row s n).align (cur_offset s)))

-- a next step, unless the one before broke off
go_on_keeps : (P : State → Type 0) (o : Option Refusal) (p : Progress) (next : State → Progress) → P p.state → ((s : State) → P s → P (next s).state) → P (go_on o p next).state
go_on_keeps P None p next h further = further p.state h
go_on_keeps P (Some e) p next h further = h

module _ {i : Isa} {P : State → Type 0} (w : InIslands i P) where
  -- one property throughout, with nothing asked of the fresh uses
  throughout : KeptByIslands i (λ _. Unit {0}) P P
  throughout = record {
    forgot = w.forgot;
    patched_fresh = λ s f fs place p bare first _. w.patched_fresh s f fs place p bare first;
    veneered_fresh = λ s f fs at p bare first _. w.veneered_fresh s f fs at p bare first;
    put_aside = λ s f fs p bare first _. w.put_aside s f fs p bare first;
    patched_held = w.patched_held;
    veneered_held = w.veneered_held;
    deadline_reset = w.deadline_reset;
    all_patched = λ s p. p;
    trap_written = w.trap_written;
    constant_placed = w.constant_placed;
  }

  pub island_holds : (force : Bool) (distance : ℕ) (s : State) → P s → P (island i force distance s).state
  island_holds force distance s = island_keeps throughout force distance s (any_uses s.fresh)

  pub islands_hold : (force : Bool) (n : ℕ) (s : State) → P s → P (islands_within i force n s).state
  islands_hold force zero s p = p
  islands_hold force (suc n) s p =
      let x = island i force 0 s in
      either (λ (q : Progress). P q.state) (is_busy s) _ _ (go_on_keeps P x.failed x _ (island_holds force 0 s p) (λ r pr. islands_hold force n r pr)) p
