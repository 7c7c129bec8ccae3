-- The tables of the two kinds, kind by kind.
use Rattle.std.specs.Prelude.{◌≡◌, ℕ, zero, suc, ◌^◌, ◌<◌, true, T, List, ℤ, pos, refl}
use Rattle.std.proofs.Common.{arith, lit≤}
use Rattle.std.specs.Int.Signed.{mag}
use Rattle.bits.specs.Formats.{width}
use Rattle.bits.proofs.FormatLaws.{top, good, Fresh}
use Rattle.isa.specs.Isa.{Reaches}
use Rattle.isa.specs.Laws.{KindBounds}
use Rattle.isa.proofs.Formatted.{Formatted}
use Rattle.isa.proofs.Ranges.{within}
use Rattle.riscv.specs.Fields.{format}
use Rattle.riscv.specs.Meaning.{riscv}

pub below_2 : (P : ℕ → Type 0) → P 0 → P 1 → (k : ℕ) → k < 2 → P k
below_2 P a b zero h = a
below_2 P a b (suc zero) h = b
below_2 P a b (suc (suc k)) h = absurd (omega arith)

-- every kind's field holds what the kind reaches
pub formatted : Formatted riscv format 2
formatted = record {
  aligned = refl;
  fits = below_2 (λ k. T (good 2 (format k))) tt tt;
  wide = below_2 (λ k. width (format k) ≡ 4) refl refl;
  near = below_2 (λ k. (d : ℤ) → Reaches riscv k d → mag d < 2 ^ top (format k))
      (λ d r. within 4095 d r.up r.down) (λ d r. within 1048575 d r.up r.down);
  fresh = below_2 (λ k. (b : List ℕ) → (riscv.adds k ≡ true → riscv.reads k b ≡ pos 0) → Fresh (format k) b) (λ b f. tt) (λ b f. tt);
  patched_is = λ k b d. refl;
  reads_is = λ k b. refl;
  outside_is = λ k b. refl;
}

pub bounds : (k : ℕ) → k < 2 → KindBounds riscv k
bounds = below_2 (KindBounds riscv)
    (record { max_pos_low = lit≤ tt; max_neg_low = lit≤ tt; size_low = lit≤ tt; size_high = lit≤ tt; size_aligned = refl })
    (record { max_pos_low = lit≤ tt; max_neg_low = lit≤ tt; size_low = lit≤ tt; size_high = lit≤ tt; size_aligned = refl })
