use Rattle.std.proofs.Common.{arith}
use Rattle.bits.proofs.OneField.{get_code}
use Rattle.bits.proofs.fields.get_field.Goals as goal

pub returns-clause-value : goal.returns-clause-value
returns-clause-value c = get_code c.args.lo c.args.width c.args.code (omega arith)
