use Rattle.std.proofs.Common.{◌≡◌, ◌-◌, ◌^◌, ◌<◌, length}
use Rattle.model.specs.Labels.{root_within, root}
use Rattle.slices.proofs.labels.root_of.Given as goal

abbrev pub invariant-loop-turn : goal.invariant-loop-turn
invariant-loop-turn l = (l.label < 2 ^ 32) × (root_within (length l.labels - l._turn) l.labels l.label ≡ root l.labels l.start)
