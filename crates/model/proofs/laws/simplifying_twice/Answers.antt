use Rattle.model.specs.Runs.{run}
use Rattle.model.proofs.Steady.{run_steady}
use Rattle.model.proofs.Ending.{next_twice}
use Rattle.model.proofs.laws.simplifying_twice.Goals as goal

pub returns : goal.returns
returns c = λ i lawful calls. next_twice i (run i calls) (run_steady i lawful calls)
