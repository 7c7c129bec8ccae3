use Rattle.std.proofs.Common.{◌≡◌, ◌≤◌, length, take, vec_items, vec_capacity}
use Rattle.buffer.specs.View.{view}
use Rattle.replay.proofs.Follows.{Follows}
use Rattle.replay.proofs.replay.replay_calls.Given as goal

abbrev pub invariant-loop-call : goal.invariant-loop-call
invariant-loop-call g l = record {
  set : l.session.buffer.set ≡ l.initial.session.buffer.set;
  follows : Follows (g.S.InstructionSet.meaning l.initial.session.buffer.set) (take l.call-index l.calls) (vec_items l.answers) (view l.session.buffer);
  room : length l.calls ≤ vec_capacity l.answers;
}
