use Rattle.bits.proofs.FormatLaws.{usable}
use Rattle.bits.proofs.formats.Format.read.Goals as goal

pub gathered-requires-clause-within_word : goal.gathered-requires-clause-within_word
gathered-requires-clause-within_word c = (usable _ _ (rw c.in-Pieces.is at c.requires.good)).within

pub gathered-requires-clause-number_fits : goal.gathered-requires-clause-number_fits
gathered-requires-clause-number_fits c = (usable _ _ (rw c.in-Pieces.is at c.requires.good)).fits c.read_word-code.result

pub sign_extend-requires-clause-value_fits : goal.sign_extend-requires-clause-value_fits
sign_extend-requires-clause-value_fits c = rw c.gathered.ensures ((usable _ _ (rw c.in-Pieces.is at c.requires.good)).held c.read_word-code.result)
