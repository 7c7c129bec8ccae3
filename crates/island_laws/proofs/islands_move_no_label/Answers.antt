use Rattle.island_laws.proofs.Labels.{islands_move_no_label}
use Rattle.island_laws.proofs.islands_move_no_label.Goals as goal

pub returns : goal.returns
returns c = islands_move_no_label
