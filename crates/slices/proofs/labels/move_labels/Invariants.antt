use Rattle.model.specs.Labels.{moved}
use Rattle.slices.proofs.labels.move_labels.Given as goal

abbrev pub ghost-edit_rows : goal.ghost-edit_rows
ghost-edit_rows a = moved a.edit.0.now a.edit.1.now
