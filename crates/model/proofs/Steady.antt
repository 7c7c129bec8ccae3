-- After every list of calls to a lawful set, the standing branches stand.
use Rattle.std.proofs.Common.{◌≡◌, ℕ, ◌-◌, ◌<◌, ◌≤◌, false, List, [], Option, length, get_or, take, refl, arith, length-append, length-set, length-take}
use Rattle.std.specs.List.{AllByRecursion}
use Rattle.std.proofs.ByRecursion.{All-get_or, All-take, All-set, All-push}
use Rattle.isa.specs.Isa.{Isa}
use Rattle.isa.specs.Laws.{KindBounds, Lawful}
use Rattle.model.specs.declared.rows.Branch.{Branch}
use Rattle.model.specs.Capacities.{max_code}
use Rattle.model.specs.State.{State, empty, with_branches}
use Rattle.model.specs.Simplify.{no_branch, no_fixup, relabelled, last_branch, cut, redirect, turned, bytes_of, turn}
use Rattle.model.specs.Calls.{bind, append_branch}
use Rattle.model.specs.Steps.{Call}
use Rattle.model.specs.Runs.{run}
use Rattle.model.specs.Standing.{Stands, AllStand}
use Rattle.model.proofs.Standing.{stand_none, stand_more, stand_push, stand_cut, stand_set}
use Rattle.model.proofs.Overwritten.{length-overwritten, filled_longer}
use Rattle.model.proofs.Rounds.{Taken, RulesKeep, simplified_keeps}
use Rattle.model.proofs.Kept.{Fits, Kept, always}

-- the standing branches stand, and were granted within the largest code
pub record Steady (s : State) : Type 0 where
  pub stand : AllStand (length s.code) (length s.fresh) s.branches
  pub low : AllByRecursion (λ (b : Branch). b.end ≤ max_code) s.branches

-- without branches there is nothing to say
bare_steady : (s : State) → s.branches ≡ [] → Steady s
bare_steady s e = record { stand = rw e (stand_none (length s.code) (length s.fresh)); low = rw e tt }

-- the same branches, with no less code and no fewer fresh fixups
more_steady : (s r : State) → r.branches ≡ s.branches → length s.code ≤ length r.code → length s.fresh ≤ length r.fresh → Steady s → Steady r
more_steady s r b c f k = record { stand = rw b (stand_more _ _ _ _ s.branches c f k.stand); low = rw b k.low }

-- the last branch is among the standing ones
pub last_stands : (s : State) → Steady s → Taken s → Stands (length s.code) (length s.fresh) s.branches (length s.branches - 1)
last_stands s k t = k.stand (length s.branches - 1) (omega (arith, t.some))

cut_steady : (s : State) → Steady s → Taken s → Steady (cut s)
cut_steady s k t =
    let b = last_stands s k t in
    let c : length (take (last_branch s).start s.code) ≡ (last_branch s).start = simp length-take (omega arith) in
    let f : length (take (length s.fresh - 1) s.fresh) ≡ length s.fresh - 1 = simp length-take (omega arith) in
    record { stand = rw (c, f) (stand_cut _ _ s.branches t.some k.stand); low = All-take _ (length s.branches - 1) s.branches k.low }

turn_steady : (s : State) (n l : ℕ) → n < length s.branches → Steady s → Steady (turn s n l)
turn_steady s n l h k =
    let b = turned (get_or s.branches n no_branch) l in
    let z : Stands (length s.code) (length s.fresh) s.branches n = k.stand n h in
    let m : length (bytes_of b) ≤ b.end - b.start = simp length-take (omega arith) in
    let c = length-overwritten s.code (bytes_of b) b.start (omega arith) in
    let f = length-set s.fresh b.fixup (relabelled (get_or s.fresh b.fixup no_fixup) l) in
    record {
      stand = rw (c, f) (stand_set _ _ n s.branches b h refl refl refl k.stand);
      low = All-set _ s.branches n b (All-get_or _ s.branches n no_branch h k.low) k.low;
    }

pub rules_keep_steady : RulesKeep Steady
rules_keep_steady = record {
  cuts = cut_steady;
  redirects = λ s k t. more_steady s (redirect s) refl (omega arith) (omega arith) k;
  turns = λ s k t a. turn_steady (cut s) (length s.branches - 2) (last_branch s).target (simp length-take (omega (arith, a.two))) (cut_steady s k t);
}

pub forgot_steady : (s : State) → Steady s → Steady (with_branches s [])
forgot_steady s k = bare_steady (with_branches s []) refl

-- labels do not matter
pub bound_steady : (s : State) (l : ℕ) → Steady s → Steady (bind s l)
bound_steady s l k = more_steady s (bind s l) refl (omega arith) (omega arith) k

-- a branch of a lawful set has one to eight bytes
branched_steady : (i : Isa) → Lawful i → (s : State) (l k : ℕ) (bytes : List ℕ) (inverted : Option (List ℕ)) → Steady s → Fits i s l k bytes → Steady (append_branch i s l k bytes inverted)
branched_steady i y s l k bytes inverted h f =
    let z : KindBounds i k = y.kind_bounds k f.kind in
    record {
      stand = stand_push _ _ _ _ s.branches _ h.stand (omega arith) (omega arith) (omega arith) (simp length-append (omega arith)) (omega arith) (simp length-append (omega arith)) (simp length-append (omega arith)) (simp length-append (omega arith));
      low = All-push _ s.branches _ h.low f.room;
    }

pub calls_keep_steady : (i : Isa) → Lawful i → Kept i Steady Steady
calls_keep_steady i y = record {
  label = λ s k _. more_steady s _ refl (omega arith) (omega arith) k;
  bound = λ s l k _. bound_steady s l k;
  simple = simplified_keeps rules_keep_steady forgot_steady false;
  data_put = λ s trap bytes k _ _. more_steady s _ refl (simp length-append (omega arith)) (omega arith) k;
  used = λ s l n bytes k _ _. more_steady s _ refl (simp length-append (omega arith)) (simp length-append (omega arith)) k;
  branched = λ s l n bytes inverted k f _ _ _. branched_steady i y s l n bytes inverted k f;
  trap_deferred = λ s d k _ _. more_steady s _ refl (omega arith) (omega arith) k;
  registered = λ s size align k _ _. more_steady s _ refl (omega arith) (omega arith) k;
  requested = λ s n k _ _ _. more_steady s _ refl (omega arith) (omega arith) k;
  opened = λ s k _. more_steady s _ refl (omega arith) (omega arith) k;
  closed = λ s start k _. more_steady s _ refl (omega arith) (omega arith) k;
  forgot = forgot_steady;
  patched_fresh = λ s f fs place k e _ _. bare_steady _ e;
  veneered_fresh = λ s f fs at k e _ _. bare_steady _ e;
  put_aside = λ s f fs k e _. bare_steady _ e;
  patched_held = λ s f fs place k e _ _. bare_steady _ e;
  veneered_held = λ s f fs at k e _ _. bare_steady _ e;
  deadline_reset = λ s k. more_steady s _ refl (omega arith) (omega arith) k;
  trap_written = λ s d ds k e _ _. bare_steady _ e;
  constant_placed = λ s n ns k e _ _. bare_steady _ e;
  broke_off = λ s k. more_steady s _ refl (omega arith) (omega arith) k;
  at_end = λ s k. k;
  pool_copied = λ s pool k. more_steady s _ refl (filled_longer s pool s.placed s.code) (omega arith) k;
}

-- after every list of calls
pub run_steady : (i : Isa) → Lawful i → (cs : List Call) → Steady (run i cs).state
run_steady i y cs = always (calls_keep_steady i y) (bare_steady empty refl) cs
