use Rattle.model.proofs.Within.{run_within}
use Rattle.model.proofs.Orderly.{run_code_fits}
use Rattle.model.proofs.laws.capacities_kept.Goals as goal

pub returns : goal.returns
returns c = λ i calls. (run_within i calls, λ lawful. run_code_fits i lawful calls)
