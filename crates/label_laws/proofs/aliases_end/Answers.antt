use Rattle.label_laws.proofs.Runs.{aliases_end}
use Rattle.label_laws.proofs.aliases_end.Goals as goal

pub returns : goal.returns
returns c = aliases_end
