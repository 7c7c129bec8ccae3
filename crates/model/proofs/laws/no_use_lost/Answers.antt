use Rattle.std.proofs.Common.{take}
use Rattle.model.proofs.Balance.{run_accounted}
use Rattle.model.proofs.laws.no_use_lost.Goals as goal

pub returns : goal.returns
returns c = λ i calls n. run_accounted i (take n calls)
