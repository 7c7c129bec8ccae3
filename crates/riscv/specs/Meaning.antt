-- What RISC-V means to a code buffer.
use Rattle.std.specs.Prelude.{false, [], ◌∷◌, drop, ◌==◌, slice_index}
use Rattle.bits.specs.Words.{to_bytes}
use Rattle.isa.specs.Isa.{Isa}
use Rattle.isa.specs.Words.{Encoding, reads, patched, outside, role, rest, inverted, branch_at_head}
use Rattle.riscv.specs.Fields.{format}
use Rattle.riscv.specs.Roles.{role_of}

-- the sense stands in bit 12
abbrev pub riscv_words : Encoding
riscv_words = record { kinds = 2; format = format; role = role_of; sense = λ w. 12 }

-- What is found: a veneer is a jump, and found as one.
abbrev pub riscv : Isa
riscv = record {
  align = 4;
  kinds = 2;
  max_pos = λ k. slice_index (4095 ∷ 1048575 ∷ []) k;
  max_neg = λ k. slice_index (4096 ∷ 1048576 ∷ []) k;
  size = λ k. 4;
  adds = λ k. false;
  reads = reads riscv_words;
  patched = patched riscv_words;
  outside = outside riscv_words;
  role = role riscv_words;
  rest = rest riscv_words;
  inverted = λ k b. inverted riscv_words b;
  supports = λ k. (k == 0);
  veneer = λ k. record { code = to_bytes 4 0x6f; place = 0; own = 1 };
  chain = λ k. slice_index (1 ∷ []) k;
  worst = 4;
  trap = to_bytes 4 0x00100073;
  find = λ code at. branch_at_head riscv_words (0 ∷ 1 ∷ []) (drop at code);
}
