-- How a displacement stands in the bytes that hold it.
use Rattle.std.specs.Prelude.{ℕ, ◌+◌, ◌-◌, ◌*◌, ◌%◌, ◌^◌, Bool, ◌&&◌, List, [], ◌∷◌, ℤ, nat_eq, nat_le, nat_lt}
use Rattle.std.specs.Int.{cast_unsigned, w32}
use Rattle.bits.specs.declared.formats.Format.{Format as FormatValue}
use Rattle.bits.specs.declared.formats.Format.TheVariants.{Pieces, Whole}
use Rattle.bits.specs.declared.pieces.Piece.{Piece}
use Rattle.bits.specs.Fields.{scatter, gather, laid, runs}
use Rattle.bits.specs.Words.{word, to_bytes, signed}

-- In a word of n bytes: in pieces, with the sign at bit h of the displacement; or the whole word, which the
-- displacement is added to.
pub data Format : Type 0 where
  pieces : ℕ → List Piece → ℕ → Format
  whole : ℕ → Format

-- the word's length in bytes
abbrev pub width : Format → ℕ
width (pieces n ps h) = n
width (whole n) = n

-- the displacement that the bytes hold
abbrev pub reading : Format → List ℕ → ℤ
reading (pieces n ps h) b = signed h (gather ps (word n b))
reading (whole n) b = signed (8 * n - 1) (word n b)

-- the word x with the displacement's bits u
abbrev pub rewriting : Format → ℕ → ℕ → ℕ
rewriting (pieces n ps h) x u = scatter ps x u
rewriting (whole n) x u = (x + u) % 2 ^ (8 * n)

-- the bytes with the displacement d in the field, or added
abbrev pub patching : Format → List ℕ → ℤ → List ℕ
patching f b d = to_bytes (width f) (rewriting f (word (width f) b) (cast_unsigned w32 d))

-- the word with the field cleared
abbrev pub clear_field : Format → ℕ → ℕ
clear_field (pieces n ps h) x = scatter ps x 0
clear_field (whole n) x = 0

-- the bytes with the field cleared
abbrev pub clearing : Format → List ℕ → List ℕ
clearing f b = to_bytes (width f) (clear_field f (word (width f) b))

-- the lowest bit of the displacement that the pieces hold
abbrev pub first : List Piece → ℕ
first [] = 0
first (p ∷ ps) = p.from

-- A format for displacements that are multiples of 2 ^ e: the pieces lie in a word and apart, and hold all bits from
-- one that is 0 in every such displacement up to the sign's.
abbrev pub good : ℕ → Format → Bool
good e (pieces n ps h) =
    nat_le 1 n && (nat_le n 4 && (laid (8 * n) ps && (runs (first ps) ps (h + 1)
    && (nat_le (first ps) e && (nat_le e 32 && nat_lt h 32)))))
good e (whole n) = nat_eq n 4 && nat_le e 32

-- what a format in the code stands for
abbrev pub format_of : FormatValue → Format
format_of (Pieces ps h) = pieces 4 ps.now h
format_of Whole = whole 4
