use Rattle.finish_laws.proofs.Laws.{islands_bounded}
use Rattle.finish_laws.proofs.islands_bounded.Goals as goal

pub returns : goal.returns
returns c = islands_bounded
