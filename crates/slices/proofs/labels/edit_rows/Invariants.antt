use Rattle.std.proofs.Common.{◌≡◌, ◌++◌, map, take, drop}
use Rattle.slices.proofs.labels.edit_rows.Given as goal

abbrev pub invariant-loop-row : goal.invariant-loop-row
invariant-loop-row g l = l.labels ≡ map g.into (take l.row-index l.initial.labels) ++ drop l.row-index l.initial.labels
