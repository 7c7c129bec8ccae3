use Rattle.model.proofs.Steady.{run_steady}
use Rattle.model.proofs.laws.branches_stand.Goals as goal

pub returns : goal.returns
returns c = λ i lawful calls. (run_steady i lawful calls).stand
