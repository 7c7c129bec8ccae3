-- Bytes of code.
use Rattle.std.specs.Prelude.{ℕ, ◌+◌, ◌-◌, ◌%◌, Bool, ◌||◌, List, ◌++◌, length, take, drop, replicate, ◌==◌}

-- so many zeros
abbrev pub zeros : ℕ → List ℕ
zeros n = replicate n 0

-- a power of two up to 64
abbrev pub is_alignment : ℕ → Bool
is_alignment n = n == 1 || n == 2 || n == 4 || n == 8 || n == 16 || n == 32 || n == 64

-- how many bytes an offset lacks to a multiple of n
abbrev pub padding : ℕ → ℕ → ℕ
padding n at = (n - at % n) % n

-- the first multiple of n from an offset on
abbrev pub aligned : ℕ → ℕ → ℕ
aligned n at = at + padding n at

-- the code with zeros up to an offset
abbrev pub padded_to : List ℕ → ℕ → List ℕ
padded_to code at = code ++ zeros (at - length code)

-- the code with new bytes at an offset
abbrev pub overwritten : List ℕ → ℕ → List ℕ → List ℕ
overwritten code at bytes = take at code ++ (bytes ++ drop (at + length bytes) code)
