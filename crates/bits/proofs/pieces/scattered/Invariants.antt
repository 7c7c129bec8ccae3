use Rattle.std.proofs.Common.{◌≡◌}
use Rattle.bits.specs.Fields.{scatter}
use Rattle.bits.proofs.pieces.scattered.Given as goal

-- the pieces that are left, over those so far
abbrev pub invariant-loop-piece : goal.invariant-loop-piece
invariant-loop-piece l = scatter l.piece-iterator.iter.rest.now l.code l.number ≡ scatter l.pieces l.code-2 l.number
