-- The roles: they ignore the field, and one kind at most gives one.
use Rattle.std.specs.Prelude.{◌≡◌, ℕ, zero, suc, ◌<◌, true, cond, not, List, [], ◌∷◌, None, is_some, ◌==◌}
use Rattle.std.proofs.Common.{sym, ap, ◌∙◌, arith}
use Rattle.std.proofs.lemmas.Bool.{eqb-true, ne_eqb, and_parts, false≢true}
use Rattle.bits.specs.declared.pieces.Piece.{Piece}
use Rattle.bits.specs.Fields.{get, piece}
use Rattle.bits.specs.Words.{word}
use Rattle.bits.proofs.FormatLaws.{same_outside}
use Rattle.isa.proofs.Conditionals.{tested}
use Rattle.riscv.specs.Meaning.{riscv}
use Rattle.riscv.specs.KindTables.{below_2}

abbrev pub b_type : List Piece
b_type = piece 8 4 1 ∷ piece 25 6 5 ∷ piece 7 1 11 ∷ piece 31 1 12 ∷ []

abbrev j_type : List Piece
j_type = piece 21 10 1 ∷ piece 20 1 11 ∷ piece 12 8 12 ∷ piece 31 1 20 ∷ []

pub role_outside : (k : ℕ) → k < 2 → (b c : List ℕ) → riscv.outside k b ≡ riscv.outside k c → riscv.role k b ≡ riscv.role k c
role_outside = below_2 (λ k. (b c : List ℕ) → riscv.outside k b ≡ riscv.outside k c → riscv.role k b ≡ riscv.role k c)
    (λ b c e. let s = same_outside 2 4 b_type 12 b c tt e in rw (s 0 7 tt, s 13 2 tt, s 15 5 tt, s 20 5 tt, s 12 1 tt))
    (λ b c e. let s = same_outside 2 4 j_type 20 b c tt e in rw (s 0 7 tt, s 7 5 tt))

-- the kind that a branch's word is for, by its opcode
abbrev owner : ℕ → ℕ
owner n = cond (n == 0x63) 0 1

role_owner : (k : ℕ) (b : List ℕ) → is_some (riscv.role k b) ≡ true → k ≡ owner (get 0 7 (word 4 b))
role_owner zero b p =
    let w = word 4 b in
    rw (eqb-true (get 0 7 w) 0x63 (and_parts (get 0 7 w == 0x63) (not (get 13 2 w == 1)) (tested _ _ p)).0)
role_owner (suc zero) b p =
    let w = word 4 b in
    rw (eqb-true (get 0 7 w) 0x6f (and_parts (get 0 7 w == 0x6f) (get 7 5 w == 0) (tested _ _ p)).0)
role_owner (suc (suc k)) b p = absurd (false≢true (sym (ap is_some none) ∙ p))
  where
    none : riscv.role (suc (suc k)) b ≡ None
    none = rw (ne_eqb (suc (suc k)) 0 (λ h. omega arith), ne_eqb (suc (suc k)) 1 (λ h. omega arith))

pub role_once : (k j : ℕ) (b : List ℕ) → is_some (riscv.role k b) ≡ true → is_some (riscv.role j b) ≡ true → k ≡ j
role_once k j b p q = role_owner k b p ∙ sym (role_owner j b q)
