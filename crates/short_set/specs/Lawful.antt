-- This made-up set keeps the laws of an instruction set.
use Rattle.std.specs.Prelude.{◌≡◌, ℕ, zero, suc, ◌≤◌, true, refl}
use Rattle.std.proofs.Common.{inr, arith, lit<, lit≤}
use Rattle.std.proofs.lemmas.Bool.{ltb-false, false≢true}
use Rattle.bits.specs.Fields.{get}
use Rattle.bits.specs.Words.{word, signed}
use Rattle.bits.proofs.LittleEndian.{octets}
use Rattle.isa.specs.Laws.{Lawful, VeneerBounds}
use Rattle.isa.proofs.Inversions.{inverted_long, inverted_octets, inverted_role, inverted_reads, inverted_rest, rest_outside}
use Rattle.isa.proofs.Formatted.{patched_long, patched_octets, reads_patched, outside_patched, field_only}
use Rattle.short_set.specs.Meaning.{short}
use Rattle.short_set.specs.Finds.{finds_branch, finds_veneer}
use Rattle.short_set.specs.Inversions.{conditionals}
use Rattle.short_set.specs.KindTables.{below_4, formatted, bounds, role_outside, role_once}

branch_veneer : VeneerBounds short 0 (short.veneer 0)
unfolding signed word get
branch_veneer = record {
  some = lit≤ tt;
  at_most_worst = lit≤ tt;
  aligned = refl;
  octets = octets (short.veneer 0).code tt;
  own_kind = lit< tt;
  own_aligned = refl;
  own_within = lit≤ tt;
  own_reads_0 = refl;
  chain_falls = refl;
}

jump_veneer : VeneerBounds short 1 (short.veneer 1)
unfolding signed word get
jump_veneer = record {
  some = lit≤ tt;
  at_most_worst = lit≤ tt;
  aligned = refl;
  octets = octets (short.veneer 1).code tt;
  own_kind = lit< tt;
  own_aligned = refl;
  own_within = lit≤ tt;
  own_reads_0 = refl;
  chain_falls = refl;
}

no_chain : (k : ℕ) → 2 ≤ k → short.chain k ≡ 0
no_chain zero h = absurd (omega arith)
no_chain (suc zero) h = absurd (omega arith)
no_chain (suc (suc k)) h = refl

pub short_lawful : Lawful short
short_lawful = record {
  align_power = (1, lit≤ tt, refl);
  kind_bounds = bounds;
  patched_long = patched_long formatted;
  patched_octets = patched_octets formatted;
  reads_patched = reads_patched formatted;
  outside_patched = outside_patched formatted;
  field_only = field_only formatted;
  role_outside = λ k b c p q. role_outside k p.kind b c;
  role_once = λ k j b p q. role_once k j b;
  adds_no_branch = λ k b p e. absurd (false≢true e);
  inverted_long = λ k b p. inverted_long conditionals b;
  inverted_octets = λ k b p. inverted_octets conditionals b;
  inverted_role = λ k b c s p. inverted_role conditionals k b c s p.kind;
  inverted_reads = λ k b c s p. inverted_reads conditionals k b c s p.kind;
  inverted_rest = λ k b c s p. inverted_rest conditionals k b c s p.kind;
  rest_outside = λ k b c x s p q. rest_outside conditionals k b c x s p.kind;
  veneer_bounds = below_4 (λ k. short.supports k ≡ true → VeneerBounds short k (short.veneer k))
      (λ e. branch_veneer) (λ e. jump_veneer) (λ e. absurd (false≢true e)) (λ e. absurd (false≢true e));
  no_chain = λ k e. no_chain k (ltb-false k 2 e);
  worst_high = lit≤ tt;
  worst_met = inr (0, lit< tt, refl, refl);
  trap_low = lit≤ tt;
  trap_high = lit≤ tt;
  trap_aligned = refl;
  trap_octets = octets short.trap tt;
  finds_branch = finds_branch;
  finds_veneer = λ k d before after h e p. finds_veneer k h e d before after p;
}
