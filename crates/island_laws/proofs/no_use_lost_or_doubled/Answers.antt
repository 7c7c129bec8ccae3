use Rattle.island_laws.proofs.Accounts.{accounted}
use Rattle.island_laws.proofs.no_use_lost_or_doubled.Goals as goal

pub returns : goal.returns
returns c = accounted
