-- Lists of calls, from a new buffer on.
use Rattle.std.specs.Prelude.{Bool, true, false, cond, List, [], ◌∷◌}
use Rattle.isa.specs.Isa.{Isa}
use Rattle.model.specs.State.{State, empty}
use Rattle.model.specs.Steps.{Call, Answer, Granted, Number, Closed, YesNo, Finished, Refused, step}
use Rattle.model.specs.Tallies.{Tally, no_tally, sum_of, tally}

-- where a list of calls has come: the tables, the sum of the tallies, the answers, the latest first, and whether it was
-- finished
pub record Run : Type 0 where
  pub state : State
  pub counts : Tally
  pub answers : List Answer
  pub finished : Bool

-- a new buffer, of which nothing was asked
abbrev pub begun : Run
begun = record { state = empty; counts = no_tally; answers = []; finished = false }

-- this answer ends the building
abbrev pub ends : Answer → Bool
ends Granted = false
ends (Number n) = false
ends (Closed r) = false
ends (YesNo b) = false
ends (Finished n) = true
ends (Refused e) = false

-- one call more; a finished buffer takes none
abbrev pub next : Isa → Run → Call → Run
next i r c =
    let x = step i r.state c in
    let y : Run = record { state = x.1; counts = sum_of r.counts (tally i r.state c); answers = x.0 ∷ r.answers; finished = ends x.0 } in
    cond r.finished r y

-- the calls of a list, one after the other
abbrev pub run_from : Isa → Run → List Call → Run
run_from i r [] = r
run_from i r (c ∷ cs) = run_from i (next i r c) cs

-- a list of calls from a new buffer on
abbrev pub run : Isa → List Call → Run
run i cs = run_from i begun cs
