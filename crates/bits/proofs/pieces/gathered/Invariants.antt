use Rattle.std.proofs.Common.{◌≡◌, ◌+◌, drop}
use Rattle.bits.specs.Fields.{gather}
use Rattle.bits.proofs.pieces.gathered.Given as goal

-- the pieces so far, and the others
abbrev pub invariant-loop-piece : goal.invariant-loop-piece
invariant-loop-piece l = l.number + gather (drop l.piece-index l.pieces) l.code ≡ gather l.pieces l.code
