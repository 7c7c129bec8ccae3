-- The laws of finishing.
use Rattle.std.proofs.Common.{◌≡◌, ℕ, ◌+◌, ◌≤◌, Bool, true, false, List, length, None, Ok, sym, refl, ◌∙◌, subst, arith}
use Rattle.std.proofs.lemmas.List.{nil_from_length}
use Rattle.std.proofs.lemmas.Bool.{ltb-false}
use Rattle.isa.specs.Isa.{Isa}
use Rattle.isa.specs.Laws.{Lawful}
use Rattle.model.specs.State.{State}
use Rattle.model.specs.Fixups.{waiting}
use Rattle.model.specs.Finish.{is_busy, longest_chain, islands_within, all_islands, unfit, finish}
use Rattle.model.specs.Steps.{Call}
use Rattle.model.specs.Runs.{begun, run}
use Rattle.model.proofs.Orderly.{run_orderly}
use Rattle.label_laws.proofs.Runs.{run_sound}
use Rattle.finish_laws.specs.Islands.{Islands, FinishedBy}
use Rattle.finish_laws.specs.Laws.{Done}
use Rattle.finish_laws.proofs.Answered.{Granted, granted}
use Rattle.finish_laws.proofs.Brings.{brought}
use Rattle.finish_laws.proofs.Counted.{within_bound, so_many, larger_bound}
use Rattle.finish_laws.proofs.Awaited.{run_awaited}
use Rattle.finish_laws.proofs.Ending.{Fit, islands_end}
use Rattle.finish_laws.proofs.Finished.{last_call}

-- where nothing is to do, nothing waits
idle_done : (s : State) → is_busy s ≡ false → Done s
idle_done s e =
    let z : waiting s + length s.deferred + length s.requested ≤ 0 = ltb-false _ _ e in
    record { none_wait = omega arith; no_traps = nil_from_length s.deferred (omega arith); no_constants = nil_from_length s.requested (omega arith) }

module _ (i : Isa) (lawful : Lawful i) (calls : List Call) (building : (run i calls).finished ≡ false) where
  fit : (pool : List ℕ) → unfit (run i calls).state pool ≡ None → Fit i (run i calls).state
  fit pool e = record { orderly = run_orderly i lawful calls building; sound = run_sound i calls; awaited = run_awaited i calls; pool = pool; accepted = e }

  pub islands_bounded : (force : Bool) (pool : List ℕ) (n : ℕ) → (finish i (run i calls).state force pool).0 ≡ Ok n → (n ≤ 2 + longest_chain i) × FinishedBy i force pool n (run i calls).state (finish i (run i calls).state force pool).1
  islands_bounded force pool n h =
      let s = (run i calls).state in
      let g : Granted i force s pool n (finish i s force pool).1 = granted i force s pool n h in (
        subst (λ (k : ℕ). k ≤ 2 + longest_chain i) (sym g.counted) (within_bound i force (2 + longest_chain i) s g.whole),
        record {
          last = (all_islands i force s).state;
          islands = subst (λ (k : ℕ). Islands i force k s (all_islands i force s).state) (sym g.counted) (so_many i force (2 + longest_chain i) s g.whole);
          idle = brought (λ r. is_busy r ≡ false) (all_islands i force s) g.whole (islands_end i lawful force s (fit pool g.fit));
          pool_copied = g.tables;
        },
      )

  pub islands_reach_end : (force : Bool) (pool : List ℕ) (n : ℕ) → unfit (run i calls).state pool ≡ None → 2 + longest_chain i ≤ n → islands_within i force n (run i calls).state ≡ all_islands i force (run i calls).state
  islands_reach_end force pool n e h =
      let s = (run i calls).state in
      larger_bound i force (2 + longest_chain i) n s h (λ whole. brought (λ r. is_busy r ≡ false) (all_islands i force s) whole (islands_end i lawful force s (fit pool e)))

pub finished_is_done : (i : Isa) → Lawful i → (calls : List Call) → (run i calls).finished ≡ true → Done (run i calls).state
finished_is_done i lawful calls e =
    let f = last_call i begun calls refl e in
    let b = (islands_bounded i lawful f.before f.building f.force f.pool f.count f.granted).1 in
    let d = idle_done b.last b.idle in
    subst Done (sym (f.tables ∙ b.pool_copied)) (record { none_wait = d.none_wait; no_traps = d.no_traps; no_constants = d.no_constants })
