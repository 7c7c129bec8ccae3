use Rattle.model.specs.Runs.{run}
use Rattle.model.specs.Calls.{bind}
use Rattle.model.proofs.Steady.{run_steady, bound_steady}
use Rattle.model.proofs.Ending.{all_rounds_end}
use Rattle.model.proofs.laws.simplification_ends.Goals as goal

pub returns : goal.returns
returns c = λ i lawful calls l.
    let s = (run i calls).state in
    let k = run_steady i lawful calls in
    (all_rounds_end s k, all_rounds_end (bind s l) (bound_steady s l k))
