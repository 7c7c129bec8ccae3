-- How far islands have come.
use Rattle.std.specs.Prelude.{ℕ, ◌+◌, Some, None, Option}
use Rattle.model.specs.declared.refusals.Refusal.{Refusal}
use Rattle.model.specs.State.{State}

pub record Progress : Type 0 where
  pub failed : Option Refusal  -- why an island broke off
  pub state : State
  pub made : ℕ  -- veneers
  pub patched : ℕ  -- fixups
  pub islands : ℕ  -- completed

-- nothing made and nothing patched
abbrev pub reached : State → Progress
reached s = record { failed = None; state = s; made = 0; patched = 0; islands = 0 }

-- the tables stay as they were before what failed
abbrev pub breaks_off : Refusal → State → Progress
breaks_off e s = record { failed = Some e; state = s; made = 0; patched = 0; islands = 0 }

-- the second after the first
abbrev pub plus : Progress → Progress → Progress
plus p q = record { failed = q.failed; state = q.state; made = p.made + q.made; patched = p.patched + q.patched; islands = p.islands + q.islands }

-- the next step, if nothing failed
abbrev pub go_on : Option Refusal → Progress → (State → Progress) → Progress
go_on None p next = plus p (next p.state)
go_on (Some e) p next = p

-- the next step, unless the one before broke off
abbrev pub then : Progress → (State → Progress) → Progress
then p next = go_on p.failed p next
