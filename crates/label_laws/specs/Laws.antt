-- What holds of labels after every list of calls, over any instruction set.
use Rattle.std.specs.Prelude.{◌≡◌, ℕ, ◌<◌, List, ◌++◌, length}
use Rattle.isa.specs.Isa.{Isa}
use Rattle.model.specs.declared.rows.Label.{Label}
use Rattle.model.specs.declared.rows.Place.TheVariants.{At}
use Rattle.model.specs.Labels.{label_row}
use Rattle.model.specs.Steps.{Call}
use Rattle.model.specs.Runs.{run}
use Rattle.label_laws.specs.Leads.{Ends}
use Rattle.label_laws.specs.Moves.{NeverForward}

-- the labels after a list of calls
abbrev pub labels_after : Isa → List Call → List Label
labels_after i calls = (run i calls).state.labels

-- The aliases of every label end.
abbrev pub AliasesEnd : Type 0
AliasesEnd = (i : Isa) (calls : List Call) (l : ℕ) → l < length (labels_after i calls) → Ends (labels_after i calls) l

-- A label that stands somewhere never moves forward, by one call more or by any number of them.
abbrev pub LabelsNeverMoveForward : Type 0
LabelsNeverMoveForward =
    (i : Isa) (calls more : List Call) (l from : ℕ) → (label_row (labels_after i calls) l).place ≡ At from → NeverForward (label_row (labels_after i calls) l) (label_row (labels_after i (calls ++ more)) l)
