-- The tables of the four kinds, kind by kind, and their roles.
use Rattle.std.specs.Prelude.{◌≡◌, ℕ, zero, suc, ◌+◌, ◌^◌, ◌<◌, true, T, List, [], ◌∷◌, ℤ, pos, is_some, ◌==◌, nat_le, nat_lt, refl}
use Rattle.std.proofs.Common.{sym, ◌∙◌, arith, leb→le, lit≤}
use Rattle.std.specs.Int.Signed.{mag}
use Rattle.std.proofs.lemmas.Bool.{eqb-true, and_parts}
use Rattle.bits.specs.declared.pieces.Piece.{Piece}
use Rattle.bits.specs.Fields.{get, piece}
use Rattle.bits.specs.Formats.{width}
use Rattle.bits.specs.Words.{word}
use Rattle.bits.proofs.FormatLaws.{top, good, Fresh, same_outside}
use Rattle.isa.specs.Isa.{Reaches}
use Rattle.isa.specs.Laws.{KindBounds}
use Rattle.isa.proofs.Conditionals.{tested}
use Rattle.isa.proofs.Formatted.{Formatted}
use Rattle.isa.proofs.Ranges.{within}
use Rattle.short_set.specs.Fields.{format}
use Rattle.short_set.specs.Meaning.{short}

pub below_4 : (P : ℕ → Type 0) → P 0 → P 1 → P 2 → P 3 → (k : ℕ) → k < 4 → P k
below_4 P a b c d zero h = a
below_4 P a b c d (suc zero) h = b
below_4 P a b c d (suc (suc zero)) h = c
below_4 P a b c d (suc (suc (suc zero))) h = d
below_4 P a b c d (suc (suc (suc (suc k)))) h = absurd (omega arith)

-- every kind's field holds what the kind reaches
pub formatted : Formatted short format 1
formatted = record {
  aligned = refl;
  fits = below_4 (λ k. T (good 1 (format k))) tt tt tt tt;
  wide = below_4 (λ k. width (format k) ≡ 4) refl refl refl refl;
  near = below_4 (λ k. (d : ℤ) → Reaches short k d → mag d < 2 ^ top (format k))
      (λ d r. within 15 d r.up r.down) (λ d r. within 63 d r.up r.down)
      (λ d r. within 1048575 d r.up r.down) (λ d r. within 15 d r.up r.down);
  fresh = below_4 (λ k. (b : List ℕ) → (short.adds k ≡ true → short.reads k b ≡ pos 0) → Fresh (format k) b)
      (λ b f. tt) (λ b f. tt) (λ b f. tt) (λ b f. tt);
  patched_is = λ k b d. refl;
  reads_is = λ k b. refl;
  outside_is = λ k b. refl;
}

pub bounds : (k : ℕ) → k < 4 → KindBounds short k
bounds = below_4 (KindBounds short) (of 0 tt tt) (of 1 tt tt) (of 2 tt tt) (of 3 tt tt)
  where
    of : (k : ℕ) → T (nat_le 2 (short.max_pos k)) → T (nat_le 2 (short.max_neg k)) → KindBounds short k
    of k p q = record {
      max_pos_low = leb→le _ _ p;
      max_neg_low = leb→le _ _ q;
      size_low = lit≤ tt;
      size_high = lit≤ tt;
      size_aligned = refl;
    }

-- the pieces of a branch's field
abbrev pub near : List Piece
near = piece 12 4 1 ∷ []

pub role_outside : (k : ℕ) → k < 4 → (b c : List ℕ) → short.outside k b ≡ short.outside k c → short.role k b ≡ short.role k c
role_outside = below_4 (λ k. (b c : List ℕ) → short.outside k b ≡ short.outside k c → short.role k b ≡ short.role k c)
    (λ b c e. let s = same_outside 1 4 near 4 b c tt e in rw (s 0 8 tt, s 9 3 tt, s 8 1 tt))
    (λ b c e. rw (same_outside 1 4 (piece 12 6 1 ∷ []) 6 b c tt e 0 8 tt))
    (λ b c e. rw (same_outside 1 4 (piece 12 20 1 ∷ []) 20 b c tt e 0 8 tt))
    (λ b c e. refl)

-- the opcode of a branch is its kind's number and 1
opcode : (k : ℕ) (b : List ℕ) → is_some (short.role k b) ≡ true → get 0 8 (word 4 b) ≡ k + 1
opcode k b p =
    let n = get 0 8 (word 4 b) in
    eqb-true n (k + 1) (and_parts (nat_lt k 3) (n == k + 1) (tested _ _ p)).1

pub role_once : (k j : ℕ) (b : List ℕ) → is_some (short.role k b) ≡ true → is_some (short.role j b) ≡ true → k ≡ j
role_once k j b p q = let e : k + 1 ≡ j + 1 = sym (opcode k b p) ∙ opcode j b q in omega arith
