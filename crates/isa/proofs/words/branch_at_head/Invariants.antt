use Rattle.std.proofs.Common.{◌≡◌, drop}
use Rattle.isa.specs.Words.{branch_at_head}
use Rattle.isa.proofs.words.branch_at_head.Given as goal

-- no kind so far has a branch there
abbrev pub invariant-loop-kind : goal.invariant-loop-kind
invariant-loop-kind g l =
    let e = g.S.WordSet.encoding l.set in
    branch_at_head e l.kinds l.code ≡ branch_at_head e (drop l.kind-index l.kinds) l.code
