use Rattle.model.proofs.Orderly.{run_orderly}
use Rattle.model.proofs.laws.uses_in_place.Goals as goal

pub returns : goal.returns
returns c = λ i lawful calls building. (run_orderly i lawful calls building).uses
