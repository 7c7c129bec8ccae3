-- AArch64 keeps the laws of an instruction set.
use Rattle.std.specs.Prelude.{◌≡◌, ℕ, zero, suc, ◌≤◌, true, refl}
use Rattle.std.proofs.Common.{inr, arith, lit<, lit≤}
use Rattle.std.proofs.lemmas.Bool.{eqb-true, ltb-false, false≢true}
use Rattle.bits.specs.Fields.{get}
use Rattle.bits.specs.Words.{word, signed}
use Rattle.bits.proofs.LittleEndian.{octets}
use Rattle.isa.specs.Laws.{Lawful, VeneerBounds}
use Rattle.isa.proofs.Inversions.{inverted_long, inverted_octets, inverted_role, inverted_reads, inverted_rest, rest_outside}
use Rattle.isa.proofs.Formatted.{patched_long, patched_octets, reads_patched, outside_patched, field_only}
use Rattle.aarch64.specs.Meaning.{aarch64, long_veneer, short_veneer}
use Rattle.aarch64.specs.Finds.{finds_branch, finds_veneer}
use Rattle.aarch64.specs.Inversions.{conditionals}
use Rattle.aarch64.specs.KindTables.{below_6, formatted, bounds}
use Rattle.aarch64.specs.RoleLaws.{role_outside, role_once}

long_bounds : VeneerBounds aarch64 2 long_veneer
unfolding signed word
long_bounds = record {
  some = lit≤ tt;
  at_most_worst = lit≤ tt;
  aligned = refl;
  octets = octets long_veneer.code tt;
  own_kind = lit< tt;
  own_aligned = refl;
  own_within = lit≤ tt;
  own_reads_0 = refl;
  chain_falls = refl;
}

short_bounds : (k : ℕ) → aarch64.chain k ≡ 2 → VeneerBounds aarch64 k short_veneer
unfolding signed word get
short_bounds k c = record {
  some = lit≤ tt;
  at_most_worst = lit≤ tt;
  aligned = refl;
  octets = octets short_veneer.code tt;
  own_kind = lit< tt;
  own_aligned = refl;
  own_within = lit≤ tt;
  own_reads_0 = refl;
  chain_falls = c;
}

no_chain : (k : ℕ) → 3 ≤ k → aarch64.chain k ≡ 0
no_chain zero h = absurd (omega arith)
no_chain (suc zero) h = absurd (omega arith)
no_chain (suc (suc zero)) h = absurd (omega arith)
no_chain (suc (suc (suc k))) h = refl

pub aarch64_lawful : Lawful aarch64
aarch64_lawful = record {
  align_power = (2, lit≤ tt, refl);
  kind_bounds = bounds;
  patched_long = patched_long formatted;
  patched_octets = patched_octets formatted;
  reads_patched = reads_patched formatted;
  outside_patched = outside_patched formatted;
  field_only = field_only formatted;
  role_outside = λ k b c p q. role_outside k p.kind b c;
  role_once = λ k j b p q. role_once k j b;
  adds_no_branch = λ k b p e. rw (eqb-true k 5 e);
  inverted_long = λ k b p. inverted_long conditionals b;
  inverted_octets = λ k b p. inverted_octets conditionals b;
  inverted_role = λ k b c s p. inverted_role conditionals k b c s p.kind;
  inverted_reads = λ k b c s p. inverted_reads conditionals k b c s p.kind;
  inverted_rest = λ k b c s p. inverted_rest conditionals k b c s p.kind;
  rest_outside = λ k b c x s p q. rest_outside conditionals k b c x s p.kind;
  veneer_bounds = below_6 (λ k. aarch64.supports k ≡ true → VeneerBounds aarch64 k (aarch64.veneer k))
      (λ e. short_bounds 0 refl) (λ e. short_bounds 1 refl) (λ e. long_bounds)
      (λ e. absurd (false≢true e)) (λ e. absurd (false≢true e)) (λ e. absurd (false≢true e));
  no_chain = λ k e. no_chain k (ltb-false k 3 e);
  worst_high = lit≤ tt;
  worst_met = inr (2, lit< tt, refl, refl);
  trap_low = lit≤ tt;
  trap_high = lit≤ tt;
  trap_aligned = refl;
  trap_octets = octets aarch64.trap tt;
  finds_branch = finds_branch;
  finds_veneer = λ k d before after h e p. finds_veneer k h e d before after p;
}
