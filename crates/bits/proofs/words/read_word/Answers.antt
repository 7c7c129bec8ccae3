use Rattle.std.proofs.Common.{◌≡◌, ℕ, zero, suc, ◌+◌, ◌*◌, List, [], ◌∷◌, get_or, drop, refl, arith}
use Rattle.bits.specs.Words.{value, word}
use Rattle.bits.proofs.words.read_word.Goals as goal

-- the bytes from the i-th on, as one byte and the rest
value-drop : (i : ℕ) (b : List ℕ) → value (drop i b) ≡ get_or b i 0 + 256 * value (drop (suc i) b)
value-drop zero [] = refl
value-drop zero (x ∷ b) = refl
value-drop (suc i) [] = refl
value-drop (suc i) (x ∷ b) = value-drop i b

pub returns : goal.returns
unfolding word
returns c =
    let b = c.args.bytes.now in
    omega (arith, value-drop 0 b, value-drop 1 b, value-drop 2 b, value-drop 3 b)
