-- The tables of the six kinds, kind by kind.
use Rattle.std.specs.Prelude.{◌≡◌, ℕ, zero, suc, ◌^◌, ◌<◌, true, T, List, ℤ, pos, refl}
use Rattle.std.proofs.Common.{arith}
use lib.Dec.{lit<, lit≤}
use Rattle.std.specs.Int.Signed.{mag}
use Rattle.bits.specs.Formats.{width}
use Rattle.bits.proofs.FormatLaws.{top, good, Fresh}
use Rattle.isa.specs.Isa.{Reaches}
use Rattle.isa.specs.Laws.{KindBounds}
use Rattle.isa.proofs.Formatted.{Formatted}
use Rattle.isa.proofs.Ranges.{within}
use Rattle.aarch64.specs.Fields.{format}
use Rattle.aarch64.specs.Meaning.{aarch64}

pub below_6 : (P : ℕ → Type 0) → P 0 → P 1 → P 2 → P 3 → P 4 → P 5 → (k : ℕ) → k < 6 → P k
below_6 P a b c d e f zero h = a
below_6 P a b c d e f (suc zero) h = b
below_6 P a b c d e f (suc (suc zero)) h = c
below_6 P a b c d e f (suc (suc (suc zero))) h = d
below_6 P a b c d e f (suc (suc (suc (suc zero)))) h = e
below_6 P a b c d e f (suc (suc (suc (suc (suc zero))))) h = f
below_6 P a b c d e f (suc (suc (suc (suc (suc (suc k)))))) h = absurd (omega arith)

-- every kind's field holds what the kind reaches
pub formatted : Formatted aarch64 format 2
formatted = record {
  aligned = refl;
  fits = below_6 (λ k. T (good 2 (format k))) tt tt tt tt tt tt;
  wide = below_6 (λ k. width (format k) ≡ 4) refl refl refl refl refl refl;
  near = below_6 (λ k. (d : ℤ) → Reaches aarch64 k d → mag d < 2 ^ top (format k))
      (λ d r. within 32767 d r.up r.down) (λ d r. within 1048575 d r.up r.down) (λ d r. within 134217727 d r.up r.down)
      (λ d r. within 1048575 d r.up r.down) (λ d r. within 1048575 d r.up r.down) (λ d r. within 2147483647 d r.up r.down);
  fresh = below_6 (λ k. (b : List ℕ) → (aarch64.adds k ≡ true → aarch64.reads k b ≡ pos 0) → Fresh (format k) b)
      (λ b f. tt) (λ b f. tt) (λ b f. tt) (λ b f. tt) (λ b f. tt) (λ b f. f refl);
  patched_is = λ k b d. refl;
  reads_is = λ k b. refl;
  outside_is = λ k b. refl;
}

pub bounds : (k : ℕ) → k < 6 → KindBounds aarch64 k
bounds = below_6 (KindBounds aarch64) (of 0 tt tt) (of 1 tt tt) (of 2 tt tt) (of 3 tt tt) (of 4 tt tt) (of 5 tt tt)
  where
    of : (k : ℕ) → T (lib.Dec.leb 4 (aarch64.max_pos k)) → T (lib.Dec.leb 4 (aarch64.max_neg k)) → KindBounds aarch64 k
    of k p q = record {
      max_pos_low = lib.Dec.leb→le _ _ p;
      max_neg_low = lib.Dec.leb→le _ _ q;
      size_low = lit≤ tt;
      size_high = lit≤ tt;
      size_aligned = refl;
    }
