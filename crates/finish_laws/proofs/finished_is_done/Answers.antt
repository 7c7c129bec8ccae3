use Rattle.finish_laws.proofs.Laws.{finished_is_done}
use Rattle.finish_laws.proofs.finished_is_done.Goals as goal

pub returns : goal.returns
returns c = finished_is_done
