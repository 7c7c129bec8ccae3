-- Conditions compared, and opposite roles.
use Rattle.std.specs.Prelude.{ℕ, Bool, true, false, cond, not, ◌&&◌, List, [], ◌∷◌, Some, None, Option, ◌==◌}
use Rattle.isa.specs.declared.jumps.Condition.{Condition}
use Rattle.isa.specs.declared.jumps.Condition.TheVariants.{Flags, Zero, Bit, Compare}
use Rattle.isa.specs.declared.jumps.Role.{Role}
use Rattle.isa.specs.declared.jumps.Role.TheVariants.{Unconditional, Conditional}

-- two conditions of one way of testing, with the same test and registers
abbrev pub same_condition : Condition → Condition → Bool
same_condition (Flags t) (Flags u) = t == u
same_condition (Zero t r) (Zero u s) = t == u && r == s
same_condition (Bit t r) (Bit u s) = t == u && r == s
same_condition (Compare t a b) (Compare u c d) = t == u && (a == c && b == d)
same_condition _ _ = false

-- two lists of bytes are the same
abbrev pub same : List ℕ → List ℕ → Bool
same [] [] = true
same [] (y ∷ ys) = false
same (x ∷ xs) [] = false
same (x ∷ xs) (y ∷ ys) = x == y && same xs ys

-- two conditionals with one condition and two senses
abbrev pub opposite : Option Role → Option Role → Bool
opposite None r = false
opposite (Some Unconditional) r = false
opposite (Some (Conditional c s)) None = false
opposite (Some (Conditional c s)) (Some Unconditional) = false
opposite (Some (Conditional c s)) (Some (Conditional d t)) = same_condition c d && cond s (not t) t
