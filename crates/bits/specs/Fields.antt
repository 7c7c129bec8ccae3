-- The fields of a word, by quotients and remainders.
use Rattle.std.specs.Prelude.{ℕ, ◌+◌, ◌-◌, ◌*◌, ◌/◌, ◌%◌, ◌^◌, ◌≤◌, Bool, true, ◌&&◌, ◌||◌, List, [], ◌∷◌, nat_eq, nat_le}
use Rattle.bits.specs.declared.pieces.Piece.{Piece}

-- the w bits of x from bit lo
unfoldable pub get : ℕ → ℕ → ℕ → ℕ
get lo w x = x / 2 ^ lo % 2 ^ w

-- x with v in the w bits from bit lo
unfoldable pub put : ℕ → ℕ → ℕ → ℕ → ℕ
put lo w x v = x / 2 ^ (lo + w) * 2 ^ (lo + w) + (v * 2 ^ lo + x % 2 ^ lo)

-- x with bit p turned round
abbrev pub flip : ℕ → ℕ → ℕ
flip p x = put p 1 x (1 - get p 1 x)

-- the `wide` bits from bit `from` of a number stand at bit `at` of a word
abbrev pub piece : ℕ → ℕ → ℕ → Piece
piece a w f = record { at = a; wide = w; from = f }

-- a piece lies in a word of 32 bits, and is one of a number of 32 bits
pub record WithinWord (p : Piece) : Type 0 where
  pub place : p.at + p.wide ≤ 32
  pub source : p.from + p.wide ≤ 32

-- the word x with the pieces of the number u
abbrev pub scatter : List Piece → ℕ → ℕ → ℕ
scatter [] x u = x
scatter (p ∷ ps) x u = put p.at p.wide (scatter ps x u) (get p.from p.wide u)

-- the number whose pieces stand in the word x
abbrev pub gather : List Piece → ℕ → ℕ
gather [] x = 0
gather (p ∷ ps) x = get p.at p.wide x * 2 ^ p.from + gather ps x

-- two pieces lie apart in the word
abbrev pub apart : Piece → Piece → Bool
apart p q = nat_le (p.at + p.wide) q.at || nat_le (q.at + q.wide) p.at

-- a piece lies apart from each of some pieces
abbrev pub clear : Piece → List Piece → Bool
clear p [] = true
clear p (q ∷ qs) = apart p q && clear p qs

-- the pieces lie in m bits and apart
abbrev pub laid : ℕ → List Piece → Bool
laid m [] = true
laid m (p ∷ ps) = nat_le (p.at + p.wide) m && (clear p ps && laid m ps)

-- the pieces hold the bits from a to b of the number, in order
abbrev pub runs : ℕ → List Piece → ℕ → Bool
runs a [] b = nat_eq a b
runs a (p ∷ ps) b = nat_eq p.from a && runs (a + p.wide) ps b
