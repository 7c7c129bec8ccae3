-- The branches of AArch64, by the bits of their words, as the Arm Architecture Reference Manual draws them.
use Rattle.std.specs.Prelude.{ℕ, Bool, cond, not, ◌&&◌, Some, None, Option, ◌==◌}
use Rattle.bits.specs.Fields.{get}
use Rattle.isa.specs.declared.jumps.Condition.{Condition}
use Rattle.isa.specs.declared.jumps.Condition.TheVariants.{Flags, Zero, Bit}
use Rattle.isa.specs.declared.jumps.Role.{Role}
use Rattle.isa.specs.declared.jumps.Role.TheVariants.{Unconditional, Conditional}

-- Veneers change the registers 16 and 17, so a branch that tests one of them has no role.
abbrev pub is_kept : ℕ → Bool
is_kept w = not (get 1 4 w == 8)

-- A test of a register, by bits 30 to 25 of the word. Bit 24 tells the two of a pair apart.
abbrev pub register_role : ℕ → Condition → ℕ → Option Role
register_role opcode c w = cond (get 25 6 w == opcode && is_kept w) (Some (Conditional c (get 24 1 w == 1))) None

-- TBZ and TBNZ: bits 30 to 25 are 011011, the bit number is in bits 23 to 19 and the register in bits 4 to 0.
abbrev pub test_role : ℕ → Option Role
test_role w = register_role 0x1b (Bit (get 19 5 w) (get 0 5 w)) w

-- CBZ and CBNZ: bits 30 to 25 are 011010, bit 31 is the register's width and bits 4 to 0 are the register.
abbrev pub compare_role : ℕ → Option Role
compare_role w = register_role 0x1a (Zero (get 31 1 w) (get 0 5 w)) w

-- B.cond: bits 31 to 25 are 0101010, and bits 24 and 4 are 0; with bit 4 set it is BC.cond. The condition is in
-- bits 3 to 1, of which 111 is always, and bit 0 turns it round.
abbrev pub is_flags : ℕ → Bool
is_flags w = get 25 7 w == 0x2a

abbrev pub flags_role : ℕ → Option Role
flags_role w =
    cond (get 24 1 w == 0 && (get 4 1 w == 0 && not (get 1 3 w == 7))) (Some (Conditional (Flags (get 1 3 w)) (get 0 1 w == 1))) None

abbrev pub branch19_role : ℕ → Option Role
branch19_role w = cond (is_flags w) (flags_role w) (compare_role w)

-- B: bits 31 to 26 are 000101.
abbrev pub jump_role : ℕ → Option Role
jump_role w = cond (get 26 6 w == 5) (Some Unconditional) None

abbrev pub role_of : ℕ → ℕ → Option Role
role_of k w = cond (k == 0) (test_role w) (cond (k == 1) (branch19_role w) (cond (k == 2) (jump_role w) None))

-- the bit that holds the sense
abbrev pub sense_bit : ℕ → ℕ
sense_bit w = cond (is_flags w) 0 24
