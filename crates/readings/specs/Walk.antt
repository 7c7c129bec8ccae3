-- Walks: a system of positions, each of which stops at a destination, leads on to one position, or leads nowhere.
use Rattle.std.specs.Prelude.{◌≡◌, ℕ, zero, suc}

pub data Step (P X : Type 0) : Type 0 where
  stop : X → Step P X
  nowhere : Step P X
  on : P → Step P X

-- how a walk ends: it arrives, or runs off
pub data End (X : Type 0) : Type 0 where
  arrives : X → End X
  off : End X

-- a walk from a position ends so, after so many steps
pub data Ends {P X : Type 0} (step : P → Step P X) : ℕ → P → End X → Type 0 where
  here : {p : P} {x : X} → step p ≡ stop x → Ends step zero p (arrives x)
  lost : {p : P} → step p ≡ nowhere → Ends step zero p off
  then : {n : ℕ} {p q : P} {e : End X} → step p ≡ on q → Ends step n q e → Ends step (suc n) p e

abbrev pub Arrives : {P X : Type 0} → (P → Step P X) → P → X → Type 0
Arrives step p x = (n : ℕ) × Ends step n p (arrives x)

abbrev pub RunsOff : {P X : Type 0} → (P → Step P X) → P → Type 0
RunsOff step p = (n : ℕ) × Ends step n p off

-- a walk that never ends
abbrev pub Circles : {P X : Type 0} → (P → Step P X) → P → Type 0
Circles {P} {X} step p = (n : ℕ) (e : End X) → Ends step n p e → ⊥
