-- Two systems agree from two starts, unless the first runs off: they arrive at the same places, and circle together.
use Rattle.std.specs.Prelude.{◌↔◌}
use Rattle.readings.specs.Walk.{Step, Arrives, RunsOff, Circles}

abbrev pub Agrees : {P Q X : Type 0} → (P → Step P X) → (Q → Step Q X) → P → Q → Type 0
Agrees {P} {Q} {X} first second p q = (RunsOff first p → ⊥) → ((x : X) → Arrives first p x ↔ Arrives second q x) × (Circles first p ↔ Circles second q)
