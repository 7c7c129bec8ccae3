use Rattle.std.proofs.Common.{◌≡◌, true, rules}
use Rattle.buffer.specs.View.{view}
use Rattle.replay.specs.Calls.{is_plain}
use Rattle.replay.proofs.Plain.{held_after}
use Rattle.replay.proofs.session.Session.make.Goals as goal

pub invariant_of-self : goal.invariant_of-self
invariant_of-self g c =
    let before = c.args.self.now in
    let plain : is_plain c.args.call ≡ true = search rules in
    record { held = held_after before.token (g.S.InstructionSet.meaning before.buffer.set) (view before.buffer) _ c.args.call _ plain c.make_plain.ensures.tables before.held }
