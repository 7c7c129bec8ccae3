-- From two constructors that would be equal, anything: `apart (cc)`.
use Rattle.std.proofs.Common.{◌≡◌, ℕ, arith}

pub apart : {A : Type 0} → ◌≡◌ {A = ℕ} 0 1 → A
apart z = let b : ⊥ = omega arith in absurd b
