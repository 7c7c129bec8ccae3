-- What finishing answers, by whether it is refused and whether an island failed.
use Rattle.std.proofs.Common.{◌≡◌, ℕ, Bool, true, List, Some, None, Ok, Err, Option, refl, arith}
use Rattle.isa.specs.Isa.{Isa}
use Rattle.model.specs.declared.refusals.Refusal.{Refusal}
use Rattle.model.specs.State.{State, with_broken}
use Rattle.model.specs.Finish.{unfit, all_islands, concluded, finish_unless, finish}
use Rattle.finish_laws.specs.Islands.{with_pool}

-- a granted finish was not refused, no island failed, and the pool was copied
pub record Granted (i : Isa) (force : Bool) (s : State) (pool : List ℕ) (n : ℕ) (after : State) : Type 0 where
  pub fit : unfit s pool ≡ None
  pub whole : (all_islands i force s).failed ≡ None
  pub counted : n ≡ (all_islands i force s).islands
  pub tables : after ≡ with_pool (all_islands i force s).state pool

module _ (i : Isa) (force : Bool) (s : State) (pool : List ℕ) where
  concluded_granted : (n : ℕ) (o : Option Refusal) → unfit s pool ≡ None → (all_islands i force s).failed ≡ o → (concluded o (all_islands i force s) pool).0 ≡ Ok n → Granted i force s pool n (concluded o (all_islands i force s) pool).1
  concluded_granted n None f e h = record { fit = f; whole = e; counted = cc; tables = refl }
  concluded_granted n (Some x) f e h = let z : ◌≡◌ {A = ℕ} 0 1 = cc in absurd (omega arith)

  granted_by : (n : ℕ) (o : Option Refusal) → unfit s pool ≡ o → (finish_unless o i s force pool).0 ≡ Ok n → Granted i force s pool n (finish_unless o i s force pool).1
  granted_by n None f h = concluded_granted n (all_islands i force s).failed f refl h
  granted_by n (Some x) f h = let z : ◌≡◌ {A = ℕ} 0 1 = cc in absurd (omega arith)

  pub granted : (n : ℕ) → (finish i s force pool).0 ≡ Ok n → Granted i force s pool n (finish i s force pool).1
  granted n h = granted_by n (unfit s pool) refl h

  concluded_broke : (e : Refusal) (o : Option Refusal) → (all_islands i force s).failed ≡ o → (concluded o (all_islands i force s) pool).0 ≡ Err e → ((all_islands i force s).failed ≡ Some e) × ((concluded o (all_islands i force s) pool).1 ≡ with_broken (all_islands i force s).state true)
  concluded_broke e None f h = let z : ◌≡◌ {A = ℕ} 0 1 = cc in absurd (omega arith)
  concluded_broke e (Some x) f h = (cc, refl)

  broke_by : (e : Refusal) (o : Option Refusal) → o ≡ None → (finish_unless o i s force pool).0 ≡ Err e → ((all_islands i force s).failed ≡ Some e) × ((finish_unless o i s force pool).1 ≡ with_broken (all_islands i force s).state true)
  broke_by e None f h = concluded_broke e (all_islands i force s).failed refl h
  broke_by e (Some x) f h = let z : ◌≡◌ {A = ℕ} 0 1 = cc in absurd (omega arith)

  pub broke : (e : Refusal) → unfit s pool ≡ None → (finish i s force pool).0 ≡ Err e → ((all_islands i force s).failed ≡ Some e) × ((finish i s force pool).1 ≡ with_broken (all_islands i force s).state true)
  broke e f h = broke_by e (unfit s pool) f h

  refused_by : (e : Refusal) (o : Option Refusal) → o ≡ Some e → finish_unless o i s force pool ≡ (Err e, s)
  refused_by e None h = let z : ◌≡◌ {A = ℕ} 0 1 = cc in absurd (omega arith)
  refused_by e (Some x) h = let z : x ≡ e = cc in rw z

  pub refused : (e : Refusal) → unfit s pool ≡ Some e → finish i s force pool ≡ (Err e, s)
  refused e h = refused_by e (unfit s pool) h
