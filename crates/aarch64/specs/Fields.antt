-- Where AArch64 instructions hold a displacement, as the Arm Architecture Reference Manual draws them.
use Rattle.std.specs.Prelude.{ℕ, List, [], ◌∷◌, slice_index_or}
use Rattle.bits.specs.Fields.{piece}
use Rattle.bits.specs.Formats.{Format, pieces, whole}

-- A piece is its lowest bit in the word, its bits, and its lowest bit in the displacement. The last number of a
-- format is the displacement's sign bit.
abbrev pub formats : List Format
formats =
    pieces 4 (piece 5 14 2 ∷ []) 15  -- Branch14, TBZ and TBNZ: imm14 in bits 18 to 5, times 4
    ∷ pieces 4 (piece 5 19 2 ∷ []) 20  -- Branch19, B.cond, CBZ and CBNZ: imm19 in bits 23 to 5, times 4
    ∷ pieces 4 (piece 0 26 2 ∷ []) 27  -- Branch26, B and BL: imm26 in bits 25 to 0, times 4
    ∷ pieces 4 (piece 5 19 2 ∷ []) 20  -- Ldr19, LDR of a literal: imm19 in bits 23 to 5, times 4
    ∷ pieces 4 (piece 29 2 0 ∷ piece 5 19 2 ∷ []) 20  -- Adr21, ADR: immlo in bits 30 and 29, immhi in bits 23 to 5
    ∷ whole 4  -- PCRel32: a word of data
    ∷ []

abbrev pub format : ℕ → Format
format k = slice_index_or formats k (whole 4)
