-- Ranges of numbers in two's complement.
use Rattle.std.proofs.Common.{ℕ, ◌+◌, ◌<◌, ℤ, pos, negsuc, ◌+ℤ◌, ◌≤ℤ◌, arith}
use lib.Signed.{mag}
use Rattle.std.proofs.lemmas.Int.{ints}

pub within : (n : ℕ) (d : ℤ) → d ≤ℤ pos n → pos 0 ≤ℤ (d +ℤ pos (n + 1)) → mag d < n + 1
within n (pos m) p q = omega (arith, ints, p)
within n (negsuc m) p q = omega (arith, ints, q)
