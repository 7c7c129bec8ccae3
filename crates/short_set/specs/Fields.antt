-- Where the words of this made-up set hold a displacement.
use Rattle.std.specs.Prelude.{ℕ, List, [], ◌∷◌, slice_index_or}
use Rattle.bits.specs.Fields.{piece}
use Rattle.bits.specs.Formats.{Format, pieces, whole}

-- A piece is its lowest bit in the word, its bits, and its lowest bit in the displacement. The last number of a
-- format is the displacement's sign bit.
abbrev pub formats : List Format
formats =
    pieces 4 (piece 12 4 1 ∷ []) 4  -- branch: bits 15 to 12, times 2
    ∷ pieces 4 (piece 12 6 1 ∷ []) 6  -- jump: bits 17 to 12, times 2
    ∷ pieces 4 (piece 12 20 1 ∷ []) 20  -- far jump: bits 31 to 12, times 2
    ∷ pieces 4 (piece 12 4 1 ∷ []) 4  -- load: bits 15 to 12, times 2
    ∷ []

abbrev pub format : ℕ → Format
format k = slice_index_or formats k (whole 4)
