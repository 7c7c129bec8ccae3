-- The roles: they ignore the field, and one kind at most gives one.
use Rattle.std.specs.Prelude.{◌≡◌, ℕ, zero, suc, ◌<◌, true, cond, List, [], ◌∷◌, None, is_some, ◌==◌, refl}
use Rattle.std.proofs.Common.{sym, ap, ◌∙◌, inl, inr, arith, lit≤}
use Rattle.std.proofs.lemmas.Bool.{eqb-true, ne_eqb, and_parts, cases_Bool, false≢true}
use Rattle.bits.specs.declared.pieces.Piece.{Piece}
use Rattle.bits.specs.Fields.{get, piece}
use Rattle.bits.specs.Words.{word}
use Rattle.bits.proofs.FormatLaws.{same_outside}
use Rattle.bits.proofs.OneField.{get-get}
use Rattle.isa.proofs.Conditionals.{tested}
use Rattle.aarch64.specs.Meaning.{aarch64}
use Rattle.aarch64.specs.Roles.{is_kept, is_flags}
use Rattle.aarch64.specs.KindTables.{below_6}

abbrev pub p14 : List Piece
p14 = piece 5 14 2 ∷ []

abbrev pub p19 : List Piece
p19 = piece 5 19 2 ∷ []

abbrev p26 : List Piece
p26 = piece 0 26 2 ∷ []

pub role_outside : (k : ℕ) → k < 6 → (b c : List ℕ) → aarch64.outside k b ≡ aarch64.outside k c → aarch64.role k b ≡ aarch64.role k c
role_outside = below_6 (λ k. (b c : List ℕ) → aarch64.outside k b ≡ aarch64.outside k c → aarch64.role k b ≡ aarch64.role k c)
    (λ b c e. let s = same_outside 2 4 p14 15 b c tt e in rw (s 25 6 tt, s 1 4 tt, s 19 5 tt, s 0 5 tt, s 24 1 tt))
    (λ b c e. let s = same_outside 2 4 p19 20 b c tt e in rw (s 25 7 tt, s 24 1 tt, s 4 1 tt, s 1 3 tt, s 0 1 tt, s 25 6 tt, s 1 4 tt, s 31 1 tt, s 0 5 tt))
    (λ b c e. rw (same_outside 2 4 p26 27 b c tt e 26 6 tt))
    (λ b c e. refl) (λ b c e. refl) (λ b c e. refl)

-- the kind that a branch's word is for, by its bits 30 to 25
abbrev owner : ℕ → ℕ
owner n = cond (n == 0x1b) 0 (cond (n == 0x1a) 1 (cond (n == 0x2a) 1 2))

-- B.cond by those bits
pub flags_bits : (w : ℕ) → is_flags w ≡ true → get 25 6 w ≡ 0x2a
unfolding get
flags_bits w e = sym (get-get 25 7 0 6 w (lit≤ tt)) ∙ ap (get 0 6) (eqb-true (get 25 7 w) 0x2a e)

owned_jump : (n : ℕ) → get 1 5 n ≡ 5 → 2 ≡ owner n
unfolding get
owned_jump n e = rw (ne_eqb n 0x1b (λ h. omega arith), ne_eqb n 0x1a (λ h. omega arith), ne_eqb n 0x2a (λ h. omega arith))

low_5 : (n : ℕ) → n ≡ 5 → get 0 5 n ≡ 5
unfolding get
low_5 n e = rw e

role_owner : (k : ℕ) (b : List ℕ) → is_some (aarch64.role k b) ≡ true → k ≡ owner (get 25 6 (word 4 b))
role_owner zero b p =
    let w = word 4 b in
    rw (eqb-true (get 25 6 w) 0x1b (and_parts (get 25 6 w == 0x1b) (is_kept w) (tested _ _ p)).0)
role_owner (suc zero) b p =
    let w = word 4 b in
    elim (cases_Bool (is_flags w)) [
      | inl e ↦ rw (flags_bits w e)
      | inr e ↦ rw (eqb-true (get 25 6 w) 0x1a (and_parts (get 25 6 w == 0x1a) (is_kept w) (tested _ _ (rw e at p))).0)
    ]
role_owner (suc (suc zero)) b p =
    let w = word 4 b in
    let e = eqb-true (get 26 6 w) 5 (tested _ _ p) in
    owned_jump (get 25 6 w) (get-get 25 6 1 5 w (lit≤ tt) ∙ sym (get-get 26 6 0 5 w (lit≤ tt)) ∙ low_5 (get 26 6 w) e)
role_owner (suc (suc (suc k))) b p =
    let n = suc (suc (suc k)) in
    absurd (false≢true (sym (ap is_some none) ∙ p))
  where
    none : aarch64.role (suc (suc (suc k))) b ≡ None
    none = rw (ne_eqb (suc (suc (suc k))) 0 (λ h. omega arith), ne_eqb (suc (suc (suc k))) 1 (λ h. omega arith), ne_eqb (suc (suc (suc k))) 2 (λ h. omega arith))

pub role_once : (k j : ℕ) (b : List ℕ) → is_some (aarch64.role k b) ≡ true → is_some (aarch64.role j b) ≡ true → k ≡ j
role_once k j b p q = role_owner k b p ∙ sym (role_owner j b q)
