use Rattle.island_laws.proofs.Accounts.{in_fields_only}
use Rattle.island_laws.proofs.islands_write_in_fields_only.Goals as goal

pub returns : goal.returns
returns c = in_fields_only
