-- What holds of every list of calls, over any instruction set.
use Rattle.std.specs.Prelude.{◌≡◌, ℕ, ◌+◌, ◌≤◌, Bool, true, false, List, length, take}
use Rattle.std.specs.List.{AllByRecursion}
use Rattle.isa.specs.Isa.{Isa}
use Rattle.isa.specs.Laws.{Lawful}
use Rattle.model.specs.declared.rows.Fixup.{Fixup}
use Rattle.model.specs.Capacities.{max_code}
use Rattle.model.specs.State.{State}
use Rattle.model.specs.Fixups.{waiting}
use Rattle.model.specs.Simplify.{round, all_rounds}
use Rattle.model.specs.Calls.{bind}
use Rattle.model.specs.Fates.{fits}
use Rattle.model.specs.Standing.{AllStand, settled}
use Rattle.model.specs.Within.{Within}
use Rattle.model.specs.Uses.{Uses}
use Rattle.model.specs.Steps.{Call, BindLabel, OptimizeBranches}
use Rattle.model.specs.Runs.{Run, next, run}

-- the uses accepted and made are those patched, those removed and those that wait
abbrev pub Accounted : Run → Type 0
Accounted r = r.counts.accepted + r.counts.made ≡ r.counts.patched + r.counts.removed + waiting r.state

-- No use is lost: that holds at the start of every list of calls, and after each call.
abbrev pub NoUseLost : Type 0
NoUseLost = (i : Isa) (calls : List Call) (n : ℕ) → Accounted (run i (take n calls))

-- The tables are within their capacities, after every list of calls; so is the code, if the set is lawful.
abbrev pub CapacitiesKept : Type 0
CapacitiesKept = (i : Isa) (calls : List Call) → let s = (run i calls).state in Within s × (Lawful i → length s.code ≤ max_code)

-- The uses that wait are in place and share no byte, after every list of calls to a lawful set that has not finished.
abbrev pub UsesInPlace : Type 0
UsesInPlace = (i : Isa) → Lawful i → (calls : List Call) → (run i calls).finished ≡ false → let s = (run i calls).state in Uses i s.code s.held s.fresh

-- The set can patch every use that waits, as far as the use's bytes and its label's place go.
abbrev pub UsesFit : Type 0
UsesFit = (i : Isa) → Lawful i → (calls : List Call) → (run i calls).finished ≡ false → let s = (run i calls).state in AllByRecursion (λ (f : Fixup). fits i s f ≡ true) s.fresh × AllByRecursion (λ (f : Fixup). fits i s f ≡ true) s.held

-- All branches stand, after every list of calls to a lawful set.
abbrev pub BranchesStand : Type 0
BranchesStand = (i : Isa) → Lawful i → (calls : List Call) → let s = (run i calls).state in AllStand (length s.code) (length s.fresh) s.branches

-- no rule of simplifying applies any more after all rounds
abbrev pub Ends : State → Type 0
Ends s = (round (all_rounds s).1).again ≡ false

-- Simplifying ends, after every list of calls to a lawful set, and also where a label was bound last.
abbrev pub SimplificationEnds : Type 0
SimplificationEnds = (i : Isa) → Lawful i → (calls : List Call) (l : ℕ) → let s = (run i calls).state in Ends s × Ends (bind s l)

-- Simplifying a second time, straight after the first, changes nothing.
abbrev pub SimplifyingTwice : Type 0
SimplifyingTwice = (i : Isa) → Lawful i → (calls : List Call) → let once = next i (run i calls) (OptimizeBranches false) in (next i once (OptimizeBranches false)).state ≡ once.state

-- the code before the first standing branch of a run is the same in another
abbrev pub SameBefore : Run → Run → Type 0
SameBefore r q = take (settled r.state) q.state.code ≡ take (settled r.state) r.state.code

-- A call that simplifies, with or without a new label, keeps the code before the first standing branch.
abbrev pub CodeBeforeBranchesKept : Type 0
CodeBeforeBranchesKept = (i : Isa) → Lawful i → (calls : List Call) (l : ℕ) (skip : Bool) → let r = run i calls in SameBefore r (next i r (BindLabel l skip)) × SameBefore r (next i r (OptimizeBranches skip))
