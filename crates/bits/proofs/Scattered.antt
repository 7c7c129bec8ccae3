-- The laws of a scattered field. That its pieces lie apart, and in a row, are tests, which compute at written lists.
use Rattle.std.proofs.Common.{◌≡◌, ℕ, zero, suc, ◌+◌, ◌*◌, ◌/◌, ◌%◌, ◌^◌, ◌<◌, ◌≤◌, Bool, true, false, ◌&&◌, ◌||◌, T, eqb, leb, ◌⊎◌, List, [], ◌∷◌, ◌++◌, sym, refl, ap, ◌∙◌, inl, inr, add-zero, add-mul, add_comm, arith, eqb→eq, leb→le, pow_pos}
use lib.Pow.{mod-pow-add}
use Rattle.std.specs.List.{All}
use Rattle.bits.specs.declared.pieces.Piece.{Piece}
use Rattle.bits.specs.Fields.{get, put, WithinWord, scatter, gather}
pub use Rattle.bits.specs.Fields.{apart, clear, laid, runs}
use Rattle.bits.proofs.OneField.{get-lt, shifted, middle_lt, get_middle, get-put, get_put_above, get_put_below, put-fits, put-get}

pub and_left : (a b : Bool) → T (a && b) → T a
and_left true b t = tt
and_left false b t = t

pub and_right : (a b : Bool) → T (a && b) → T b
and_right true b t = t
and_right false b t = absurd t

or_cases : (a b : Bool) → T (a || b) → T a ⊎ T b
or_cases true b t = inl tt
or_cases false b t = inr t

-- the bits of the number u that the pieces hold
abbrev pub held : List Piece → ℕ → ℕ
held [] u = 0
held (p ∷ ps) u = get p.from p.wide u * 2 ^ p.from + held ps u

-- a value put in one piece leaves a piece apart as it was
pub get_put_apart : (p q : Piece) (x v : ℕ) → T (apart p q) → v < 2 ^ p.wide
    → get q.at q.wide (put p.at p.wide x v) ≡ get q.at q.wide x
get_put_apart p q x v t h =
    elim (or_cases (leb (p.at + p.wide) q.at) (leb (q.at + q.wide) p.at) t) [
      | inl l ↦ get_put_above p.at p.wide x v q.at q.wide h (leb→le _ _ l)
      | inr r ↦ get_put_below p.at p.wide x v q.at q.wide (leb→le _ _ r)
    ]

-- and so the number that pieces apart make
pub gather-put : (p : Piece) (qs : List Piece) (x v : ℕ) → T (clear p qs) → v < 2 ^ p.wide
    → gather qs (put p.at p.wide x v) ≡ gather qs x
gather-put p [] x v t h = refl
gather-put p (q ∷ qs) x v t h =
    let a = get_put_apart p q x v (and_left _ _ t) h in
    let b = gather-put p qs x v (and_right (apart p q) _ t) h in
    rw (a, b)

-- what `laid` says of the first piece and of the others
module _ (m : ℕ) (p : Piece) (ps : List Piece) (t : T (laid m (p ∷ ps))) where
  laid_within : T (leb (p.at + p.wide) m)
  laid_within = and_left _ _ t

  laid_clear : T (clear p ps)
  laid_clear = and_left _ _ (and_right (leb (p.at + p.wide) m) _ t)

  laid_rest : T (laid m ps)
  laid_rest = and_right (clear p ps) _ (and_right (leb (p.at + p.wide) m) _ t)

-- reading the pieces gives what was written
pub gather-scatter : (m : ℕ) (ps : List Piece) (x u : ℕ) → T (laid m ps) → gather ps (scatter ps x u) ≡ held ps u
gather-scatter m [] x u t = refl
gather-scatter m (p ∷ ps) x u t =
    let v = get p.from p.wide u in
    let h = get-lt p.from p.wide u in
    let a = get-put p.at p.wide (scatter ps x u) v h in
    let b = gather-put p ps (scatter ps x u) v (laid_clear m p ps t) h in
    let c = gather-scatter m ps x u (laid_rest m p ps t) in
    rw (a, b, c)

pub apart_swap : (p q : Piece) → T (apart p q) → T (apart q p)
apart_swap p q t = or_swap (leb (p.at + p.wide) q.at) (leb (q.at + q.wide) p.at) t
  where
    or_swap : (a b : Bool) → T (a || b) → T (b || a)
    or_swap true true t = tt
    or_swap true false t = tt
    or_swap false true t = tt
    or_swap false false t = t

-- writing leaves bits apart from the pieces as they were
pub get-scatter : (q : Piece) (ps : List Piece) (x u : ℕ) → T (clear q ps)
    → get q.at q.wide (scatter ps x u) ≡ get q.at q.wide x
get-scatter q [] x u t = refl
get-scatter q (p ∷ ps) x u t =
    get_put_apart p q (scatter ps x u) (get p.from p.wide u) (apart_swap q p (and_left _ _ t)) (get-lt p.from p.wide u)
    ∙ get-scatter q ps x u (and_right (apart q p) _ t)

-- a word of m bits stays one
pub scatter-fits : (m : ℕ) (ps : List Piece) (x u : ℕ) → T (laid m ps) → x < 2 ^ m → scatter ps x u < 2 ^ m
scatter-fits m [] x u t h = h
scatter-fits m (p ∷ ps) x u t h =
    put-fits m p.at p.wide (scatter ps x u) (get p.from p.wide u) (leb→le _ _ (laid_within m p ps t))
    (scatter-fits m ps x u (laid_rest m p ps t) h) (get-lt p.from p.wide u)

-- what `runs` says of the first piece and of the others
module _ (a b : ℕ) (p : Piece) (ps : List Piece) (t : T (runs a (p ∷ ps) b)) where
  run_from : p.from ≡ a
  run_from = eqb→eq p.from a (and_left _ _ t)

  run_rest : T (runs (a + p.wide) ps b)
  run_rest = and_right (eqb p.from a) _ t

-- pieces in a row hold the bits from a to b
pub held_run : (ps : List Piece) (a b u : ℕ) → T (runs a ps b) → held ps u + u % 2 ^ a ≡ u % 2 ^ b
unfolding get
held_run [] a b u t = rw (eqb→eq a b t) (omega arith)
held_run (p ∷ ps) a b u t =
    let i = held_run ps (a + p.wide) b u (run_rest a b p ps t) in
    let m : u % 2 ^ (a + p.wide) ≡ (u / 2 ^ a % 2 ^ p.wide) * 2 ^ a + u % 2 ^ a =
    ap (λ (n : ℕ). u % 2 ^ n) (add_comm a p.wide) ∙ mod-pow-add u p.wide a in
    rw (run_from a b p ps t) (omega (arith, i, m))

-- the number that pieces in a row make, with any number l below bit a, ends below bit b
gather-lt : (ps : List Piece) (a b x l : ℕ) → T (runs a ps b) → l < 2 ^ a → gather ps x + l < 2 ^ b
gather-lt [] a b x l t h = rw (sym (eqb→eq a b t)) (omega arith)
gather-lt (p ∷ ps) a b x l t h =
    let w = p.wide in
    let g = get p.at w x in
    let m = middle_lt a w g l (get-lt p.at w x) h in
    rw (run_from a b p ps t) (omega (arith, gather-lt ps (a + w) b x (g * 2 ^ a + l) (run_rest a b p ps t) m))

-- pieces in a row up to bit b make a number of b bits
pub gather-fits : (ps : List Piece) (a b x : ℕ) → T (runs a ps b) → gather ps x < 2 ^ b
gather-fits ps a b x t = omega (arith, gather-lt ps a b x 0 t (pow_pos a))

-- pieces in a row go up
runs-le : (ps : List Piece) (a b : ℕ) → T (runs a ps b) → a ≤ b
runs-le [] a b t = omega (arith, eqb→eq a b t)
runs-le (p ∷ ps) a b t = omega (arith, runs-le ps (a + p.wide) b (run_rest a b p ps t))

-- and lie in the number, as they do in the word
pub within_word : (ps : List Piece) (a b : ℕ) → T (laid 32 ps) → T (runs a ps b) → b ≤ 32 → All WithinWord ps
within_word [] a b t r l k d h = absurd (omega arith)
within_word (p ∷ ps) a b t r l zero d h =
    record { place = leb→le _ _ (laid_within 32 p ps t); source = omega (arith, run_from a b p ps r, runs-le ps (a + p.wide) b (run_rest a b p ps r)) }
within_word (p ∷ ps) a b t r l (suc k) d h =
    within_word ps (a + p.wide) b (laid_rest 32 p ps t) (run_rest a b p ps r) l k d (omega arith)

-- the last piece is put in first
pub scatter-push : (ps : List Piece) (p : Piece) (x u : ℕ) → scatter (ps ++ (p ∷ [])) x u ≡ scatter ps (put p.at p.wide x (get p.from p.wide u)) u
scatter-push [] p x u = refl
scatter-push (q ∷ ps) p x u = ap (λ (z : ℕ). put q.at q.wide z (get q.from q.wide u)) (scatter-push ps p x u)

-- the number that pieces in a row make begins at bit a
gather_above : (ps : List Piece) (a b x : ℕ) → T (runs a ps b) → (q : ℕ) × (gather ps x ≡ q * 2 ^ a)
gather_above [] a b x t = (0, omega arith)
gather_above (p ∷ ps) a b x t =
    let w = p.wide in
    let g = get p.at w x in
    let r = gather_above ps (a + w) b x (run_rest a b p ps t) in
    let q = r.0 in (
      q * 2 ^ w + g,
      ap (λ (n : ℕ). g * 2 ^ n + gather ps x) (run_from a b p ps t)
          ∙ omega (arith, r.1, shifted a w q, add-mul (q * 2 ^ w) g (2 ^ a)),
    )

-- writing back what was read, with any number l below bit a, changes nothing
write_back : (ps : List Piece) (a b x l : ℕ) → T (runs a ps b) → l < 2 ^ a → scatter ps x (gather ps x + l) ≡ x
write_back [] a b x l t h = refl
write_back (p ∷ ps) a b x l t h =
    let w = p.wide in
    let g = get p.at w x in
    let gl = get-lt p.at w x in
    let r = gather_above ps (a + w) b x (run_rest a b p ps t) in
    let m = g * 2 ^ a + l in
    let u : g * 2 ^ p.from + gather ps x + l ≡ gather ps x + m = rw (run_from a b p ps t) (omega arith) in
    let v : get p.from w (gather ps x + m) ≡ g = rw (run_from a b p ps t, r.1) (get_middle a w r.0 g l gl h) in
    rw (u, v, write_back ps (a + w) b x m (run_rest a b p ps t) (middle_lt a w g l gl h)) (put-get p.at w x)

-- writing back what was read changes nothing
pub scatter-gather : (ps : List Piece) (a b x : ℕ) → T (runs a ps b) → scatter ps x (gather ps x) ≡ x
scatter-gather ps a b x t = ap (scatter ps x) (sym (add-zero (gather ps x))) ∙ write_back ps a b x 0 t (pow_pos a)
