use Rattle.std.proofs.Common.{refl}
use Rattle.finish_laws.proofs.pool_keeps.Goals as goal

pub returns : goal.returns
returns c = λ s pool. (refl, refl, refl, refl)
