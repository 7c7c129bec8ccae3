use Rattle.island_laws.proofs.Accounts.{patched_uses_read}
use Rattle.island_laws.proofs.patched_uses_read.Goals as goal

pub returns : goal.returns
returns c = patched_uses_read
