use Rattle.finish_laws.proofs.Laws.{islands_reach_end}
use Rattle.finish_laws.proofs.islands_reach_end.Goals as goal

pub returns : goal.returns
returns c = islands_reach_end
