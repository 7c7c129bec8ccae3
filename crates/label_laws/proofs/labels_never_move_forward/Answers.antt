use Rattle.label_laws.proofs.Runs.{never_forward}
use Rattle.label_laws.proofs.labels_never_move_forward.Goals as goal

pub returns : goal.returns
returns c = never_forward
