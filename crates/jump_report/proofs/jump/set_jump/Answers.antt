use Rattle.std.proofs.Common.{rules}
use Rattle.jump_report.proofs.JumpLaws.{jump_set}
use Rattle.jump_report.proofs.jump.set_jump.Goals as goal

pub returns : goal.returns
returns g c =
    jump_set _ (g.met.S.InstructionSet.lawful c.args.set.now) c.args.kind c.args.bytes.now c.args.displacement (search rules)
    c.in_ok-report.field-0 (search rules)
