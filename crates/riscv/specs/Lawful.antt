-- RISC-V keeps the laws of an instruction set.
use Rattle.std.specs.Prelude.{◌≡◌, ℕ, zero, suc, true, false, refl}
use Rattle.std.proofs.Common.{sym, inr, lit<, lit≤}
use Rattle.std.proofs.lemmas.Bool.{false≢true}
use Rattle.bits.specs.Fields.{get}
use Rattle.bits.specs.Words.{word, signed}
use Rattle.bits.proofs.LittleEndian.{octets}
use Rattle.isa.specs.Laws.{Lawful, VeneerBounds}
use Rattle.isa.proofs.Inversions.{inverted_long, inverted_octets, inverted_role, inverted_reads, inverted_rest, rest_outside}
use Rattle.isa.proofs.Formatted.{patched_long, patched_octets, reads_patched, outside_patched, field_only}
use Rattle.riscv.specs.Meaning.{riscv}
use Rattle.riscv.specs.Finds.{finds_branch, finds_veneer}
use Rattle.riscv.specs.Inversions.{conditionals}
use Rattle.riscv.specs.KindTables.{below_2, formatted, bounds}
use Rattle.riscv.specs.RoleLaws.{role_outside, role_once}

branch_veneer : VeneerBounds riscv 0 (riscv.veneer 0)
unfolding signed word get
branch_veneer = record {
  some = lit≤ tt;
  at_most_worst = lit≤ tt;
  aligned = refl;
  octets = octets (riscv.veneer 0).code tt;
  own_kind = lit< tt;
  own_aligned = refl;
  own_within = lit≤ tt;
  own_reads_0 = refl;
  chain_falls = refl;
}

no_chain : (k : ℕ) → riscv.supports k ≡ false → riscv.chain k ≡ 0
no_chain zero e = absurd (false≢true (sym e))
no_chain (suc k) e = refl

pub riscv_lawful : Lawful riscv
riscv_lawful = record {
  align_power = (2, lit≤ tt, refl);
  kind_bounds = bounds;
  patched_long = patched_long formatted;
  patched_octets = patched_octets formatted;
  reads_patched = reads_patched formatted;
  outside_patched = outside_patched formatted;
  field_only = field_only formatted;
  role_outside = λ k b c p q. role_outside k p.kind b c;
  role_once = λ k j b p q. role_once k j b;
  adds_no_branch = λ k b p e. absurd (false≢true e);
  inverted_long = λ k b p. inverted_long conditionals b;
  inverted_octets = λ k b p. inverted_octets conditionals b;
  inverted_role = λ k b c s p. inverted_role conditionals k b c s p.kind;
  inverted_reads = λ k b c s p. inverted_reads conditionals k b c s p.kind;
  inverted_rest = λ k b c s p. inverted_rest conditionals k b c s p.kind;
  rest_outside = λ k b c x s p q. rest_outside conditionals k b c x s p.kind;
  veneer_bounds = below_2 (λ k. riscv.supports k ≡ true → VeneerBounds riscv k (riscv.veneer k)) (λ e. branch_veneer) (λ e. absurd (false≢true e));
  no_chain = no_chain;
  worst_high = lit≤ tt;
  worst_met = inr (0, lit< tt, refl, refl);
  trap_low = lit≤ tt;
  trap_high = lit≤ tt;
  trap_aligned = refl;
  trap_octets = octets riscv.trap tt;
  finds_branch = finds_branch;
  finds_veneer = λ k d before after h e p. finds_veneer d before after p;
}
