-- Words that are conditionals or no branch at all, by a test.
use Rattle.std.proofs.Common.{◌≡◌, ℕ, Bool, true, false, cond, Some, None, Option, is_some, refl, arith}
use Rattle.isa.specs.declared.jumps.Condition.{Condition}
use Rattle.isa.specs.declared.jumps.Role.{Role}
use Rattle.isa.specs.declared.jumps.Role.TheVariants.{Unconditional, Conditional}

-- what is known of a word that is a conditional
pub record Passed (t : Bool) (x c : Condition) (y s : Bool) : Type 0 where
  pub test : t ≡ true
  pub condition : x ≡ c
  pub sense : y ≡ s

pub passed : (t : Bool) (x c : Condition) (y s : Bool) → cond t (Some (Conditional x y)) None ≡ Some (Conditional c s) → Passed t x c y s
passed true x c y s e = record { test = refl; condition = cc; sense = cc }
passed false x c y s e = let z : ◌≡◌ {A = ℕ} 0 1 = cc in absurd (omega arith)

pub tested : (t : Bool) (r : Option Role) → is_some (cond t r None) ≡ true → t ≡ true
tested true r e = refl
tested false r e = e

-- a jump is no conditional
pub no_conditional : (t : Bool) (c : Condition) (s : Bool) → cond t (Some Unconditional) None ≡ Some (Conditional c s) → ⊥
no_conditional true c s e = let z : ◌≡◌ {A = ℕ} 0 1 = cc in omega arith
no_conditional false c s e = let z : ◌≡◌ {A = ℕ} 0 1 = cc in omega arith

pub never_conditional : (c : Condition) (s : Bool) → None ≡ Some (Conditional c s) → ⊥
never_conditional c s e = let z : ◌≡◌ {A = ℕ} 0 1 = cc in omega arith
