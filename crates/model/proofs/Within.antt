-- After every list of calls, the tables are within their capacities.
use Rattle.std.proofs.Common.{ℕ, ◌+◌, ◌<◌, ◌≤◌, false, ltb, List, [], ◌++◌, length, refl, ap, arith, length-append, length-set, length-take}
use lib.ListN.{length-map}
use Rattle.std.proofs.lemmas.Bool.{ltb-true, cond_both, false≢true}
use Rattle.isa.specs.Isa.{Isa}
use Rattle.model.specs.declared.rows.Trap.{Trap}
use Rattle.model.specs.Capacities.{max_traps}
use Rattle.model.specs.State.{State, with_code, with_branches}
use Rattle.model.specs.Simplify.{cut, turn}
use Rattle.model.specs.Calls.{add_trap}
use Rattle.model.specs.Steps.{Call}
use Rattle.model.specs.Runs.{run}
use Rattle.model.specs.Within.{Within}
use Rattle.model.proofs.Labels.{length-bound_if}
use Rattle.model.proofs.Patched.{length-insert}
use Rattle.model.proofs.Rounds.{RulesKeep, simplified_keeps}
use Rattle.model.proofs.Kept.{Kept, always}

cut_within : (s : State) → Within s → Within (cut s)
cut_within s k = record { labels_fit = simp length-map k.labels_fit; fixups_fit = simp length-take (omega (arith, k.fixups_fit)); branches_fit = simp length-take (omega (arith, k.branches_fit)); traps_fit = k.traps_fit; constants_fit = k.constants_fit; requests_fit = k.requests_fit; regions_fit = k.regions_fit; open_fits = k.open_fits }

turn_within : (s : State) (n l : ℕ) → Within s → Within (turn s n l)
turn_within s n l k = record { labels_fit = k.labels_fit; fixups_fit = simp length-set k.fixups_fit; branches_fit = simp length-set k.branches_fit; traps_fit = k.traps_fit; constants_fit = k.constants_fit; requests_fit = k.requests_fit; regions_fit = k.regions_fit; open_fits = k.open_fits }

forgot_within : (s : State) → Within s → Within (with_branches s [])
forgot_within s k = record { labels_fit = k.labels_fit; fixups_fit = k.fixups_fit; branches_fit = omega arith; traps_fit = k.traps_fit; constants_fit = k.constants_fit; requests_fit = k.requests_fit; regions_fit = k.regions_fit; open_fits = k.open_fits }

rules_keep_within : RulesKeep Within
rules_keep_within = record {
  cuts = λ s k t. cut_within s k;
  redirects = λ s k t. record { labels_fit = simp length-map k.labels_fit; fixups_fit = k.fixups_fit; branches_fit = k.branches_fit; traps_fit = k.traps_fit; constants_fit = k.constants_fit; requests_fit = k.requests_fit; regions_fit = k.regions_fit; open_fits = k.open_fits };
  turns = λ s k t a. turn_within (cut s) _ _ (cut_within s k);
}

data_within : (s : State) (trap : ℕ) (bytes : List ℕ) → Within s → (0 < trap → length s.traps + length s.deferred < max_traps) → Within (with_code (add_trap s trap) (s.code ++ bytes))
data_within s trap bytes k h = record { labels_fit = k.labels_fit; fixups_fit = k.fixups_fit; branches_fit = k.branches_fit; traps_fit = traps; constants_fit = k.constants_fit; requests_fit = k.requests_fit; regions_fit = k.regions_fit; open_fits = k.open_fits }
  where
    traps : length (add_trap s trap).traps + length s.deferred ≤ max_traps
    traps = cond_both (ltb 0 trap) _ _ (λ (ts : List Trap). length ts + length s.deferred ≤ max_traps) (λ e. simp length-append (omega (arith, h (ltb-true _ _ e)))) (λ _. k.traps_fit)

calls_keep_within : (i : Isa) → Kept i Within Within
calls_keep_within i = record {
  label = λ s k h. record { labels_fit = simp length-append (omega arith); fixups_fit = k.fixups_fit; branches_fit = k.branches_fit; traps_fit = k.traps_fit; constants_fit = k.constants_fit; requests_fit = k.requests_fit; regions_fit = k.regions_fit; open_fits = k.open_fits };
  bound = λ s l k _. record { labels_fit = simp length-set k.labels_fit; fixups_fit = k.fixups_fit; branches_fit = k.branches_fit; traps_fit = k.traps_fit; constants_fit = k.constants_fit; requests_fit = k.requests_fit; regions_fit = k.regions_fit; open_fits = k.open_fits };
  simple = simplified_keeps rules_keep_within forgot_within false;
  data_put = λ s trap bytes k h _. data_within s trap bytes k h;
  used = λ s l n bytes k f _. record { labels_fit = k.labels_fit; fixups_fit = simp length-append (omega (arith, f.waits)); branches_fit = k.branches_fit; traps_fit = k.traps_fit; constants_fit = k.constants_fit; requests_fit = k.requests_fit; regions_fit = k.regions_fit; open_fits = k.open_fits };
  branched = λ s l n bytes inverted k f _ _ h. record { labels_fit = k.labels_fit; fixups_fit = simp length-append (omega (arith, f.waits)); branches_fit = simp length-append (omega arith); traps_fit = k.traps_fit; constants_fit = k.constants_fit; requests_fit = k.requests_fit; regions_fit = k.regions_fit; open_fits = k.open_fits };
  trap_deferred = λ s d k h j. record { labels_fit = simp length-append (omega arith); fixups_fit = k.fixups_fit; branches_fit = k.branches_fit; traps_fit = simp length-append (omega arith); constants_fit = k.constants_fit; requests_fit = k.requests_fit; regions_fit = k.regions_fit; open_fits = k.open_fits };
  registered = λ s size align k _ h. record { labels_fit = k.labels_fit; fixups_fit = k.fixups_fit; branches_fit = k.branches_fit; traps_fit = k.traps_fit; constants_fit = simp length-append (omega arith); requests_fit = k.requests_fit; regions_fit = k.regions_fit; open_fits = k.open_fits };
  requested = λ s n k _ h j. record { labels_fit = simp length-append (omega arith); fixups_fit = k.fixups_fit; branches_fit = k.branches_fit; traps_fit = k.traps_fit; constants_fit = simp length-set k.constants_fit; requests_fit = simp length-append (omega arith); regions_fit = k.regions_fit; open_fits = k.open_fits };
  opened = λ s k h. record { labels_fit = k.labels_fit; fixups_fit = k.fixups_fit; branches_fit = k.branches_fit; traps_fit = k.traps_fit; constants_fit = k.constants_fit; requests_fit = k.requests_fit; regions_fit = k.regions_fit; open_fits = λ _. h };
  closed = λ s start k e. record { labels_fit = k.labels_fit; fixups_fit = k.fixups_fit; branches_fit = k.branches_fit; traps_fit = k.traps_fit; constants_fit = k.constants_fit; requests_fit = k.requests_fit; regions_fit = simp length-append (omega (arith, k.open_fits (rw e refl))); open_fits = λ no. absurd (false≢true no) };
  forgot = forgot_within;
  patched_fresh = λ s f fs place k b e _. record { labels_fit = k.labels_fit; fixups_fit = omega (arith, k.fixups_fit, ap length e); branches_fit = k.branches_fit; traps_fit = k.traps_fit; constants_fit = k.constants_fit; requests_fit = k.requests_fit; regions_fit = k.regions_fit; open_fits = k.open_fits };
  veneered_fresh = λ s f fs at k b e _. record { labels_fit = k.labels_fit; fixups_fit = simp length-append (omega (arith, k.fixups_fit, ap length e)); branches_fit = k.branches_fit; traps_fit = k.traps_fit; constants_fit = k.constants_fit; requests_fit = k.requests_fit; regions_fit = k.regions_fit; open_fits = k.open_fits };
  put_aside = λ s f fs k b e. record { labels_fit = k.labels_fit; fixups_fit = simp length-insert (omega (arith, k.fixups_fit, ap length e)); branches_fit = k.branches_fit; traps_fit = k.traps_fit; constants_fit = k.constants_fit; requests_fit = k.requests_fit; regions_fit = k.regions_fit; open_fits = k.open_fits };
  patched_held = λ s f fs place k b e _. record { labels_fit = k.labels_fit; fixups_fit = omega (arith, k.fixups_fit, ap length e); branches_fit = k.branches_fit; traps_fit = k.traps_fit; constants_fit = k.constants_fit; requests_fit = k.requests_fit; regions_fit = k.regions_fit; open_fits = k.open_fits };
  veneered_held = λ s f fs at k b e _. record { labels_fit = k.labels_fit; fixups_fit = simp length-append (omega (arith, k.fixups_fit, ap length e)); branches_fit = k.branches_fit; traps_fit = k.traps_fit; constants_fit = k.constants_fit; requests_fit = k.requests_fit; regions_fit = k.regions_fit; open_fits = k.open_fits };
  deadline_reset = λ s k. record { labels_fit = k.labels_fit; fixups_fit = k.fixups_fit; branches_fit = k.branches_fit; traps_fit = k.traps_fit; constants_fit = k.constants_fit; requests_fit = k.requests_fit; regions_fit = k.regions_fit; open_fits = k.open_fits };
  trap_written = λ s d ds k b e _. record { labels_fit = simp length-set k.labels_fit; fixups_fit = k.fixups_fit; branches_fit = k.branches_fit; traps_fit = simp length-append (omega (arith, k.traps_fit, ap length e)); constants_fit = k.constants_fit; requests_fit = k.requests_fit; regions_fit = k.regions_fit; open_fits = k.open_fits };
  constant_placed = λ s n ns k b e _. record { labels_fit = simp length-bound_if k.labels_fit; fixups_fit = k.fixups_fit; branches_fit = k.branches_fit; traps_fit = k.traps_fit; constants_fit = simp length-set k.constants_fit; requests_fit = simp length-append (omega (arith, k.requests_fit, ap length e)); regions_fit = k.regions_fit; open_fits = k.open_fits };
  broke_off = λ s k. record { labels_fit = k.labels_fit; fixups_fit = k.fixups_fit; branches_fit = k.branches_fit; traps_fit = k.traps_fit; constants_fit = k.constants_fit; requests_fit = k.requests_fit; regions_fit = k.regions_fit; open_fits = k.open_fits };
  at_end = λ s k. k;
  pool_copied = λ s pool k. record { labels_fit = k.labels_fit; fixups_fit = k.fixups_fit; branches_fit = k.branches_fit; traps_fit = k.traps_fit; constants_fit = k.constants_fit; requests_fit = k.requests_fit; regions_fit = k.regions_fit; open_fits = k.open_fits };
}

-- after every list of calls
pub run_within : (i : Isa) (cs : List Call) → Within (run i cs).state
run_within i cs = always (calls_keep_within i) (record { labels_fit = omega arith; fixups_fit = omega arith; branches_fit = omega arith; traps_fit = omega arith; constants_fit = omega arith; requests_fit = omega arith; regions_fit = omega arith; open_fits = λ e. omega arith }) cs
