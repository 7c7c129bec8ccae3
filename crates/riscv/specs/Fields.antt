-- Where RISC-V instructions hold a displacement, as the RISC-V Unprivileged ISA manual draws them.
use Rattle.std.specs.Prelude.{ℕ, List, [], ◌∷◌, slice_index_or}
use Rattle.bits.specs.Fields.{piece}
use Rattle.bits.specs.Formats.{Format, pieces, whole}

-- A piece is its lowest bit in the word, its bits, and its lowest bit in the displacement, from the displacement's
-- lowest bits up. The last number of a format is the displacement's sign bit.
abbrev pub formats : List Format
formats =
    -- B12, B-type: imm[4:1] in bits 11 to 8, imm[10:5] in bits 30 to 25, imm[11] in bit 7, imm[12] in bit 31
    pieces 4 (piece 8 4 1 ∷ piece 25 6 5 ∷ piece 7 1 11 ∷ piece 31 1 12 ∷ []) 12
    -- J20, J-type: imm[10:1] in bits 30 to 21, imm[11] in bit 20, imm[19:12] in bits 19 to 12, imm[20] in bit 31
    ∷ pieces 4 (piece 21 10 1 ∷ piece 20 1 11 ∷ piece 12 8 12 ∷ piece 31 1 20 ∷ []) 20
    ∷ []

abbrev pub format : ℕ → Format
format k = slice_index_or formats k (whole 4)
