use Rattle.std.proofs.Common.{List, sym, ap, ◌∙◌}
use Rattle.bits.specs.declared.pieces.Piece.{Piece}
use Rattle.bits.specs.Fields.{scatter}
use Rattle.bits.proofs.Scattered.{scatter-push}
use Rattle.bits.proofs.pieces.scattered.Goals as goal

pub loop-piece-preserved : goal.loop-piece-preserved
loop-piece-preserved c =
    let piece = c.in-Some.piece.now in
    let left = c.next.new.self.iter.rest.now in
    let u = c.args.number in
    ap (λ x. scatter left x u) c.copy_piece-code.ensures
    ∙ sym (scatter-push left piece c.loop-piece.code u)
    ∙ ap (λ (ps : List Piece). scatter ps c.loop-piece.code u) (sym c.in-Some.ensures.steps)
    ∙ c.loop-piece.invariant
