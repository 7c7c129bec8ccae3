use Rattle.model.specs.Labels.{aliased}
use Rattle.slices.proofs.labels.alias_labels.Given as goal

abbrev pub ghost-edit_rows : goal.ghost-edit_rows
ghost-edit_rows a = aliased a.edit.0.now a.edit.1.now
