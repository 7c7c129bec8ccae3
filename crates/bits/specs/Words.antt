-- Little-endian words of n bytes, and numbers in two's complement.
use Rattle.std.specs.Prelude.{ℕ, zero, suc, ◌+◌, ◌-◌, ◌*◌, ◌/◌, ◌%◌, ◌^◌, ◌<◌, cond, List, [], ◌∷◌, ℤ, pos, negsuc, nat_lt, slice_index}

-- the value of some bytes, lowest address first
abbrev pub value : List ℕ → ℕ
value [] = 0
value (x ∷ xs) = x + 256 * value xs

-- the word that n bytes hold
unfoldable pub word : ℕ → List ℕ → ℕ
word n b = value b % 2 ^ (8 * n)

-- the n bytes of a word
abbrev pub to_bytes : ℕ → ℕ → List ℕ
to_bytes zero x = []
to_bytes (suc n) x = (x % 256) ∷ to_bytes n (x / 256)

-- each element is a byte
abbrev pub Octets : List ℕ → Type 0
Octets b = (i : ℕ) → slice_index b i < 256

-- a number of h + 1 bits, read as two's complement
unfoldable pub signed : ℕ → ℕ → ℤ
signed h n = cond (nat_lt n (2 ^ h)) (pos n) (negsuc (2 ^ (h + 1) - suc n))
