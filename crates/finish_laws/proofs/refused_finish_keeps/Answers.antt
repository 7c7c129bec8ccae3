use Rattle.finish_laws.proofs.Answered.{refused}
use Rattle.finish_laws.proofs.refused_finish_keeps.Goals as goal

pub returns : goal.returns
returns c = λ i s force pool e h. refused i force s pool e h
