-- A branch's sense is a bit apart from the field. What turning it round changes, and what clearing it loses.
use Rattle.std.proofs.Common.{◌≡◌, ℕ, zero, suc, ◌-◌, ◌*◌, ◌^◌, ◌<◌, not, T, eqb, List, ◌∷◌, sym, refl, ap, ◌∙◌, arith}
use Rattle.bits.specs.declared.pieces.Piece.{Piece}
use Rattle.bits.specs.Fields.{get, put, flip, piece, scatter, gather}
use Rattle.bits.specs.Formats.{pieces, reading}
use Rattle.bits.specs.Words.{word, to_bytes, signed}
use Rattle.bits.proofs.LittleEndian.{word_fits, word-to_bytes}
use Rattle.bits.proofs.OneField.{get-lt, get-put, put-fits, put-put, put-get}
use Rattle.bits.proofs.Outside.{bits_ext, bit_scatter}
use Rattle.bits.proofs.Scattered.{and_left, apart, apart_swap, clear, laid, get_put_apart, gather-put, get-scatter, scatter-fits}

bit_lt : (p x : ℕ) → get p 1 x < 2
bit_lt p x = get-lt p 1 x

turned_lt : (p x : ℕ) → 1 - get p 1 x < 2 ^ 1
turned_lt p x = omega arith

-- other bits stay
pub get-flip : (p a w x : ℕ) → T (apart (piece p 1 0) (piece a w 0)) → get a w (flip p x) ≡ get a w x
get-flip p a w x t = get_put_apart (piece p 1 0) (piece a w 0) x (1 - get p 1 x) t (turned_lt p x)

-- and the bit is the other one
pub sense_flip : (p x : ℕ) → eqb (get p 1 (flip p x)) 1 ≡ not (eqb (get p 1 x) 1)
sense_flip p x = ap (λ (n : ℕ). eqb n 1) (get-put p 1 x (1 - get p 1 x) (turned_lt p x)) ∙ other (get p 1 x) (bit_lt p x)
  where
    other : (g : ℕ) → g < 2 → eqb (1 - g) 1 ≡ not (eqb g 1)
    other zero h = refl
    other (suc zero) h = refl
    other (suc (suc g)) h = absurd (omega arith)

pub flip-fits : (m p x : ℕ) → p < m → x < 2 ^ m → flip p x < 2 ^ m
flip-fits m p x l f = put-fits m p 1 x (1 - get p 1 x) (omega arith) f (turned_lt p x)

pub word-flip : (n p : ℕ) (b : List ℕ) → p < 8 * n → word n (to_bytes n (flip p (word n b))) ≡ flip p (word n b)
word-flip n p b l = word-to_bytes n (flip p (word n b)) (flip-fits (8 * n) p (word n b) l (word_fits n b))

-- the displacement stays
pub reading-flip : (n p : ℕ) (ps : List Piece) (h : ℕ) (b : List ℕ) → p < 8 * n → T (clear (piece p 1 0) ps)
    → reading (pieces n ps h) (to_bytes n (flip p (word n b))) ≡ reading (pieces n ps h) b
reading-flip n p ps h b l t =
    ap (λ (x : ℕ). signed h (gather ps x)) (word-flip n p b l)
    ∙ ap (signed h) (gather-put (piece p 1 0) ps (word n b) (1 - get p 1 (word n b)) t (turned_lt p (word n b)))

cleared_bit : get 0 1 0 ≡ 0
unfolding get
cleared_bit = refl

-- what is left when the field and the bit are cleared does not see the turn
pub rest_flip : (m p : ℕ) (ps : List Piece) (x : ℕ) → T (laid m (piece p 1 0 ∷ ps)) → p < m → x < 2 ^ m
    → put p 1 (scatter ps (flip p x) 0) 0 ≡ put p 1 (scatter ps x 0) 0
rest_flip m p ps x t l f =
    let qs = piece p 1 0 ∷ ps in
    let same : scatter qs (flip p x) 0 ≡ scatter qs x 0 =
    bits_ext m (scatter qs (flip p x) 0) (scatter qs x 0) (scatter-fits m qs (flip p x) 0 t (flip-fits m p x l f)) (scatter-fits m qs x 0 t f)
    (λ i _. bit_scatter qs (flip p x) x 0 i (λ c. get-flip p i 1 x (apart_swap (piece i 1 0) (piece p 1 0) (and_left _ _ c)))) in
    ap (put p 1 (scatter ps (flip p x) 0)) (sym cleared_bit) ∙ same ∙ ap (put p 1 (scatter ps x 0)) cleared_bit

-- and together with the bit it is all that is outside the field
pub rest_same : (p : ℕ) (ps : List Piece) (x y : ℕ) → T (clear (piece p 1 0) ps) → put p 1 (scatter ps x 0) 0 ≡ put p 1 (scatter ps y 0) 0
    → eqb (get p 1 x) 1 ≡ eqb (get p 1 y) 1 → scatter ps x 0 ≡ scatter ps y 0
rest_same p ps x y t e s =
    let g : get p 1 (scatter ps x 0) ≡ get p 1 (scatter ps y 0) =
    get-scatter (piece p 1 0) ps x 0 t ∙ same_bit (get p 1 x) (get p 1 y) (bit_lt p x) (bit_lt p y) s ∙ sym (get-scatter (piece p 1 0) ps y 0 t) in
    back (scatter ps x 0) ∙ ap (λ (z : ℕ). put p 1 z (get p 1 (scatter ps x 0))) e ∙ ap (put p 1 (put p 1 (scatter ps y 0) 0)) g ∙ sym (back (scatter ps y 0))
  where
    same_bit : (a b : ℕ) → a < 2 → b < 2 → eqb a 1 ≡ eqb b 1 → a ≡ b
    same_bit a b h k e = grind arith

    back : (z : ℕ) → z ≡ put p 1 (put p 1 z 0) (get p 1 z)
    back z = sym (put-get p 1 z) ∙ sym (put-put p 1 z 0 (get p 1 z) (omega arith))
