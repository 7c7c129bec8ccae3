-- What holds of finishing, over any instruction set.
use Rattle.std.specs.Prelude.{◌≡◌, ℕ, ◌+◌, ◌≤◌, Bool, true, false, List, [], Some, None, Ok, Err}
use Rattle.isa.specs.Isa.{Isa}
use Rattle.isa.specs.Laws.{Lawful}
use Rattle.model.specs.declared.refusals.Refusal.{Refusal}
use Rattle.model.specs.State.{State, with_broken}
use Rattle.model.specs.Fixups.{waiting}
use Rattle.model.specs.Finish.{unfit, longest_chain, islands_within, all_islands, finish}
use Rattle.model.specs.Steps.{Call}
use Rattle.model.specs.Runs.{run}
use Rattle.finish_laws.specs.Islands.{FinishedBy, with_pool}

-- no use waits, no trap is deferred and no constant requested
pub record Done (s : State) : Type 0 where
  pub none_wait : waiting s ≡ 0
  pub no_traps : s.deferred ≡ []
  pub no_constants : s.requested ≡ []

-- A finished buffer is done, after every list of calls to a lawful set.
abbrev pub FinishedIsDone : Type 0
FinishedIsDone = (i : Isa) → Lawful i → (calls : List Call) → (run i calls).finished ≡ true → Done (run i calls).state

-- Finishing that is granted answers how many islands it made: as many as it takes until nothing waits and nothing is
-- pending, and at most two more than the longest chain of veneers.
abbrev pub IslandsBounded : Type 0
IslandsBounded =
    (i : Isa) → Lawful i → (calls : List Call) → (run i calls).finished ≡ false → (force : Bool) (pool : List ℕ) (n : ℕ)
    → let s = (run i calls).state in (finish i s force pool).0 ≡ Ok n → (n ≤ 2 + longest_chain i) × FinishedBy i force pool n s (finish i s force pool).1

-- Finishing that is refused before any island changes nothing.
abbrev pub RefusedFinishKeeps : Type 0
RefusedFinishKeeps = (i : Isa) (s : State) (force : Bool) (pool : List ℕ) (e : Refusal) → unfit s pool ≡ Some e → finish i s force pool ≡ (Err e, s)

-- Finishing that is refused later broke off in an island, and leaves the tables as they were then, broken off.
abbrev pub BrokenFinish : Type 0
BrokenFinish =
    (i : Isa) (s : State) (force : Bool) (pool : List ℕ) (e : Refusal) → unfit s pool ≡ None → (finish i s force pool).0 ≡ Err e
    → let p = all_islands i force s in (p.failed ≡ Some e) × ((finish i s force pool).1 ≡ with_broken p.state true)

-- A larger bound on the islands changes nothing: after as many as there may be, nothing is left to do, or one failed.
abbrev pub IslandsReachEnd : Type 0
IslandsReachEnd =
    (i : Isa) → Lawful i → (calls : List Call) → (run i calls).finished ≡ false → (force : Bool) (pool : List ℕ) (n : ℕ)
    → let s = (run i calls).state in unfit s pool ≡ None → 2 + longest_chain i ≤ n → islands_within i force n s ≡ all_islands i force s

-- Copying the pool keeps the uses that wait, and the labels.
abbrev pub PoolKeeps : Type 0
PoolKeeps = (s : State) (pool : List ℕ) → let r = with_pool s pool in (waiting r ≡ waiting s) × (r.labels ≡ s.labels) × (r.fresh ≡ s.fresh) × (r.held ≡ s.held)
