use Rattle.std.proofs.Common.{rules}
use Rattle.std.proofs.lemmas.List.Edits.{map_over_more}
use Rattle.slices.proofs.labels.edit_rows.Goals as goal

pub loop-row-preserved : goal.loop-row-preserved
loop-row-preserved g c = let e = c.requires.1.1 _ _ c.edit.ensures in search (rules, map_over_more g.into)
