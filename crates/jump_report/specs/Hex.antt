-- Bytes as pairs of hexadecimal digits, the high digit first. A text is its ASCII codes.
use Rattle.std.specs.Prelude.{ℕ, ◌+◌, ◌-◌, ◌*◌, ◌/◌, ◌%◌, ◌<◌, cond, ◌&&◌, List, [], ◌∷◌, Some, None, Option, nat_le, nat_lt, slice_index}
use Rattle.hex.specs.declared.error.FromHexError.{FromHexError}
use Rattle.hex.specs.declared.error.FromHexError.TheVariants.{InvalidHexCharacter, OddLength, InvalidStringLength, OutOfMemory as LibraryMemory}
use Rattle.jump_report.specs.declared.text.HexError.{HexError}
use Rattle.jump_report.specs.declared.text.HexError.TheVariants.{OutOfMemory, NotHex}

-- the value of a digit, 0 to 9, a to f or A to F
abbrev pub digit_value : ℕ → Option ℕ
digit_value c =
    cond (nat_le 48 c && nat_le c 57) (Some (c - 48)) (cond (nat_le 97 c && nat_le c 102) (Some (c - 87)) (cond (nat_le 65 c && nat_le c 70) (Some (c - 55)) None))

-- the byte of two digits
abbrev pub paired : Option ℕ → Option ℕ → Option ℕ
paired None y = None
paired (Some x) None = None
paired (Some x) (Some y) = Some (16 * x + y)

abbrev pub pair_value : ℕ → ℕ → Option ℕ
pair_value high low = paired (digit_value high) (digit_value low)

-- a byte before some bytes, where both are known
abbrev pub followed : Option ℕ → Option (List ℕ) → Option (List ℕ)
followed None bs = None
followed (Some x) None = None
followed (Some x) (Some bs) = Some (x ∷ bs)

-- the bytes that a text writes, if it is pairs of digits and nothing else
abbrev pub hex_bytes : List ℕ → Option (List ℕ)
hex_bytes [] = Some []
hex_bytes (a ∷ []) = None
hex_bytes (a ∷ b ∷ rest) = followed (pair_value a b) (hex_bytes rest)

-- the digit of a number below 16, in lower case
abbrev pub digit_code : ℕ → ℕ
digit_code n = cond (nat_lt n 10) (48 + n) (87 + n)

-- the text of some bytes
abbrev pub hex_text : List ℕ → List ℕ
hex_text [] = []
hex_text (b ∷ bs) = digit_code (b / 16) ∷ digit_code (b % 16) ∷ hex_text bs

-- numbers that are bytes
abbrev pub Small : List ℕ → Type 0
Small bs = (k : ℕ) → slice_index bs k < 256

-- why the library decodes no bytes
abbrev pub from_library : FromHexError → HexError
from_library (InvalidHexCharacter c i) = NotHex
from_library OddLength = NotHex
from_library InvalidStringLength = NotHex
from_library LibraryMemory = OutOfMemory
