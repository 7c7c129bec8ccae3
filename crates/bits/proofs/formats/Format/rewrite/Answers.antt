use Rattle.bits.proofs.FormatLaws.{usable}
use Rattle.bits.proofs.formats.Format.rewrite.Goals as goal

pub scattered-requires : goal.scattered-requires
scattered-requires c = (usable _ _ (rw c.in-Pieces.is at c.requires)).within
