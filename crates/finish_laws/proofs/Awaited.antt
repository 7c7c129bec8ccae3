-- After every list of calls, a reserved label that is unbound is pending.
use Rattle.std.proofs.Common.{◌≡◌, ℕ, Bool, false, not, List, refl, arith}
use Rattle.std.proofs.lemmas.Bool.{or_parts}
use Rattle.isa.specs.Isa.{Isa}
use Rattle.model.specs.State.{State, empty, cur_offset}
use Rattle.model.specs.Code.{aligned}
use Rattle.model.specs.Labels.{is_nowhere, label_row}
use Rattle.model.specs.Constants.{constant_row}
use Rattle.model.specs.Simplify.{last_branch, cut}
use Rattle.model.specs.Calls.{is_taken}
use Rattle.model.specs.Islands.{island}
use Rattle.model.specs.Steps.{Call}
use Rattle.model.specs.Runs.{run}
use Rattle.model.proofs.Rounds.{Taken, RulesKeep, simplified_keeps}
use Rattle.model.proofs.InIslands.{island_holds}
use Rattle.model.proofs.Kept.{Kept, within_islands, always}
use Rattle.finish_laws.proofs.Unplaced.{user_unplaced, free_unplaced, moved_unplaced, aliased_unplaced, unplaced_exists}
use Rattle.finish_laws.proofs.Pending.{AllPending, trap_pending, registered_pending, constant_pending, trap_placed, constant_placed}

-- every label that an island has yet to bind is pending
abbrev pub Awaited : State → Type 0
Awaited s = AllPending s.labels s.deferred s.constants s.requested

-- simplifying
cut_awaited : (s : State) → Awaited s → Taken s → Awaited (cut s)
cut_awaited s k t l a u = k l a (moved_unplaced (cur_offset s) (last_branch s).start s.labels l u)

rules_keep_awaited : RulesKeep Awaited
rules_keep_awaited = record {
  cuts = cut_awaited;
  redirects = λ s k t l a u. k l a (aliased_unplaced (last_branch s).start (last_branch s).target s.labels l u);
  turns = λ s k t a. cut_awaited s k t;
}

untaken_unreserved : (s : State) (l : ℕ) → is_taken s l ≡ false → (label_row s.labels l).reserved ≡ false
untaken_unreserved s l e = (or_parts (not (is_nowhere (label_row s.labels l).place)) _ e).1

calls_keep_awaited : (i : Isa) → Kept i Awaited Awaited
calls_keep_awaited i = record {
  label = λ s k h l a u. k l a (user_unplaced s.labels l u);
  bound = λ s l k f j a u. k j a (free_unplaced s.labels l (cur_offset s) j (untaken_unreserved s l f.untaken) u);
  simple = simplified_keeps rules_keep_awaited (λ s k. k) false;
  data_put = λ s trap bytes k _ _. k;
  used = λ s l n bytes k _ _. k;
  branched = λ s l n bytes inverted k _ _ _ _. k;
  trap_deferred = λ s d k _ _. trap_pending s.labels s.deferred s.constants s.requested d k;
  registered = λ s size align k _ _. registered_pending s.labels s.deferred s.constants s.requested size align k;
  requested = λ s n k f _ _. constant_pending s.labels s.deferred s.constants s.requested n _ refl f.exists f.free k;
  opened = λ s k _. k;
  closed = λ s start k _. k;
  forgot = λ s k. k;
  patched_fresh = λ s f fs place k _ _ _. k;
  veneered_fresh = λ s f fs at k _ _ _. k;
  put_aside = λ s f fs k _ _. k;
  patched_held = λ s f fs place k _ _ _. k;
  veneered_held = λ s f fs at k _ _ _. k;
  deadline_reset = λ s k. k;
  trap_written = λ s d ds k _ e _. trap_placed s.labels ds s.constants s.requested d (aligned i.align (cur_offset s)) (rw e at k);
  constant_placed = λ s n ns k _ e _. constant_placed s.labels s.deferred s.constants ns n _ (aligned (constant_row s n).align (cur_offset s)) (rw e at k);
  broke_off = λ s k. k;
  at_end = λ s k. k;
  pool_copied = λ s pool k. k;
}

empty_awaited : Awaited empty
empty_awaited l a u = let z = unplaced_exists empty.labels l u in omega arith

-- after every list of calls, and after an island more
pub run_awaited : (i : Isa) (cs : List Call) → Awaited (run i cs).state
run_awaited i cs = always (calls_keep_awaited i) empty_awaited cs

pub island_awaited : (i : Isa) (force : Bool) (distance : ℕ) (s : State) → Awaited s → Awaited (island i force distance s).state
island_awaited i force distance s k = island_holds (within_islands (calls_keep_awaited i)) force distance s k
