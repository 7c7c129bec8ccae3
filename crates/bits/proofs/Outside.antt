-- A word is its bits: what the bits outside the pieces say.
use Rattle.std.proofs.Common.{◌≡◌, ℕ, zero, suc, ◌+◌, ◌-◌, ◌*◌, ◌/◌, ◌%◌, ◌^◌, ◌<◌, ◌≤◌, Bool, true, false, ◌&&◌, ◌||◌, T, leb, List, [], ◌∷◌, sym, ap, ◌∙◌, inl, inr, pow-suc, arith, le→leb, shr-shr}
use Rattle.std.proofs.lemmas.Nat.{div_below}
use Rattle.std.proofs.lemmas.Bool.{cases_lt}
use Rattle.bits.specs.declared.pieces.Piece.{Piece}
use Rattle.bits.specs.Fields.{get, put, piece, scatter}
use Rattle.bits.proofs.OneField.{get-lt, get-get, get-put, get_put_above, get_put_below}
use Rattle.bits.proofs.Scattered.{apart, clear, laid, get-scatter, scatter-fits}

-- two numbers of n bits with the same bits are equal
pub bits_ext : (n x y : ℕ) → x < 2 ^ n → y < 2 ^ n → ((i : ℕ) → i < n → get i 1 x ≡ get i 1 y) → x ≡ y
unfolding get
bits_ext zero x y h k e = omega arith
bits_ext (suc n) x y h k e =
    let p : 2 ^ suc n ≡ 2 ^ n * 2 = pow-suc 2 n in
    let up : (z i : ℕ) → z / 2 / 2 ^ i % 2 ≡ z / 2 ^ suc i % 2 =
    λ z i. ap (λ (m : ℕ). m % 2) (shr-shr z 1 i ∙ ap (λ (m : ℕ). z / 2 ^ m) (omega arith)) in
    let high : x / 2 ≡ y / 2 =
    bits_ext n (x / 2) (y / 2)
    (div_below x 2 (2 ^ n) (omega arith) (omega arith)) (div_below y 2 (2 ^ n) (omega arith) (omega arith))
    (λ i l. up x i ∙ e (suc i) (omega arith) ∙ sym (up y i)) in
    let low : x / 1 % 2 ≡ y / 1 % 2 = e 0 (omega arith) in
    omega (arith, high, low)

-- bit i of a word after a field is put: the value's, or as it was
bit_put : (p : Piece) (x y v i : ℕ) → v < 2 ^ p.wide → (T (apart (piece i 1 0) p) → get i 1 x ≡ get i 1 y)
    → get i 1 (put p.at p.wide x v) ≡ get i 1 (put p.at p.wide y v)
bit_put p x y v i h e =
    let lo = p.at in
    let w = p.wide in
    elim (cases_lt i lo) [
      | inl l ↦ (let t : i + 1 ≤ lo = omega arith in
          get_put_below lo w x v i 1 t ∙ e (or_left _ _ (le→leb _ _ t)) ∙ sym (get_put_below lo w y v i 1 t))
      | inr l ↦ elim (cases_lt i (lo + w)) [
        | inl m ↦ (let s : lo + (i - lo) ≡ i = omega arith in
            let in-v : (z : ℕ) → get i 1 (put lo w z v) ≡ get (i - lo) 1 v =
            λ z. ap (λ (a : ℕ). get a 1 (put lo w z v)) (sym s)
            ∙ sym (get-get lo w (i - lo) 1 (put lo w z v) (omega arith))
            ∙ ap (get (i - lo) 1) (get-put lo w z v h) in
            in-v x ∙ sym (in-v y))
        | inr m ↦ (get_put_above lo w x v i 1 h m ∙ e (or_right (leb (i + 1) lo) _ (le→leb _ _ m))
            ∙ sym (get_put_above lo w y v i 1 h m))
      ]
    ]
  where
    or_left : (a b : Bool) → T a → T (a || b)
    or_left true b t = tt
    or_left false b t = absurd t

    or_right : (a b : Bool) → T b → T (a || b)
    or_right true b t = tt
    or_right false b t = t

-- bit i after all pieces are put: the number's, or as it was
pub bit_scatter : (ps : List Piece) (x y u i : ℕ) → (T (clear (piece i 1 0) ps) → get i 1 x ≡ get i 1 y)
    → get i 1 (scatter ps x u) ≡ get i 1 (scatter ps y u)
bit_scatter [] x y u i e = e tt
bit_scatter (p ∷ ps) x y u i e =
    bit_put p (scatter ps x u) (scatter ps y u) (get p.from p.wide u) i (get-lt p.from p.wide u)
    (λ t. bit_scatter ps x y u i (λ r. e (and_from (apart (piece i 1 0) p) _ t r)))
  where
    and_from : (a b : Bool) → T a → T b → T (a && b)
    and_from true b t r = r
    and_from false b t r = absurd t

-- of two numbers written in the pieces the last counts
pub scatter-scatter : (m : ℕ) (ps : List Piece) (x u v : ℕ) → T (laid m ps) → x < 2 ^ m
    → scatter ps (scatter ps x u) v ≡ scatter ps x v
scatter-scatter m ps x u v t h =
    bits_ext m (scatter ps (scatter ps x u) v) (scatter ps x v)
    (scatter-fits m ps (scatter ps x u) v t (scatter-fits m ps x u t h)) (scatter-fits m ps x v t h)
    (λ i l. bit_scatter ps (scatter ps x u) x v i (λ c. get-scatter (piece i 1 0) ps x u c))
