-- The branches of this made-up set, by the bits of their words.
use Rattle.std.specs.Prelude.{ℕ, ◌+◌, cond, ◌&&◌, Some, None, Option, ◌==◌, nat_lt}
use Rattle.bits.specs.Fields.{get}
use Rattle.isa.specs.declared.jumps.Condition.TheVariants.{Flags}
use Rattle.isa.specs.declared.jumps.Role.{Role}
use Rattle.isa.specs.declared.jumps.Role.TheVariants.{Unconditional, Conditional}

-- The opcode, bits 7 to 0, is the kind's number and 1. A branch has its test in bits 11 to 9, and its sense in bit 8.
-- A load is no branch.
abbrev pub role_of : ℕ → ℕ → Option Role
role_of k w = cond (nat_lt k 3 && get 0 8 w == k + 1) (Some (cond (k == 0) (Conditional (Flags (get 9 3 w)) (get 8 1 w == 1)) Unconditional)) None
