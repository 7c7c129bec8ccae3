use Rattle.model.proofs.Orderly.{run_orderly}
use Rattle.model.proofs.Fitting.{all_fit}
use Rattle.model.proofs.laws.uses_fit.Goals as goal

pub returns : goal.returns
returns c = λ i lawful calls building. all_fit i _ (run_orderly i lawful calls building)
