use Rattle.finish_laws.proofs.Answered.{broke}
use Rattle.finish_laws.proofs.broken_finish.Goals as goal

pub returns : goal.returns
returns c = λ i s force pool e f h. broke i force s pool e f h
