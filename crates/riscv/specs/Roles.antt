-- The branches of RISC-V, by the bits of their words, as the RISC-V Unprivileged ISA manual draws them.
use Rattle.std.specs.Prelude.{ℕ, cond, not, ◌&&◌, Some, None, Option, ◌==◌}
use Rattle.bits.specs.Fields.{get}
use Rattle.isa.specs.declared.jumps.Condition.{Condition}
use Rattle.isa.specs.declared.jumps.Condition.TheVariants.{Compare}
use Rattle.isa.specs.declared.jumps.Role.{Role}
use Rattle.isa.specs.declared.jumps.Role.TheVariants.{Unconditional, Conditional}

-- which comparison, and of which registers
abbrev pub comparison : ℕ → Condition
comparison w = Compare (get 13 2 w) (get 15 5 w) (get 20 5 w)

-- BEQ and BNE, BLT and BGE, BLTU and BGEU: the opcode, bits 6 to 0, is 1100011, and bits 14 and 13 are not 01. Bit
-- 12 tells the two of a pair apart.
abbrev pub branch_role : ℕ → Option Role
branch_role w = cond (get 0 7 w == 0x63 && not (get 13 2 w == 1)) (Some (Conditional (comparison w) (get 12 1 w == 1))) None

-- JAL to register 0: the opcode is 1101111, and the register, bits 11 to 7, is 0.
abbrev pub jump_role : ℕ → Option Role
jump_role w = cond (get 0 7 w == 0x6f && get 7 5 w == 0) (Some Unconditional) None

abbrev pub role_of : ℕ → ℕ → Option Role
role_of k w = cond (k == 0) (branch_role w) (cond (k == 1) (jump_role w) None)
