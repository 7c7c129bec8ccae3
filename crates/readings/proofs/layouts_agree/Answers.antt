use Rattle.readings.proofs.EveryStart.{layouts_agree}
use Rattle.readings.proofs.layouts_agree.Goals as goal

pub returns : goal.returns
returns c = layouts_agree
