-- What this made-up set means to a code buffer.
use Rattle.std.specs.Prelude.{◌+◌, false, [], ◌∷◌, drop, nat_lt, slice_index}
use Rattle.bits.specs.Words.{to_bytes}
use Rattle.isa.specs.Isa.{Isa}
use Rattle.isa.specs.Words.{Encoding, reads, patched, outside, role, rest, inverted, branch_at_head}
use Rattle.short_set.specs.Fields.{format}
use Rattle.short_set.specs.Roles.{role_of}

-- the sense stands in bit 8
abbrev pub short_words : Encoding
short_words = record { kinds = 4; format = format; role = role_of; sense = λ w. 8 }

-- The veneer of a branch is a jump, and that of a jump a far jump. Each is found as a branch.
abbrev pub short : Isa
short = record {
  align = 2;
  kinds = 4;
  max_pos = λ k. slice_index (15 ∷ 63 ∷ 1048575 ∷ 15 ∷ []) k;
  max_neg = λ k. slice_index (16 ∷ 64 ∷ 1048576 ∷ 16 ∷ []) k;
  size = λ k. 4;
  adds = λ k. false;
  reads = reads short_words;
  patched = patched short_words;
  outside = outside short_words;
  role = role short_words;
  rest = rest short_words;
  inverted = λ k b. inverted short_words b;
  supports = λ k. nat_lt k 2;
  veneer = λ k. record { code = to_bytes 4 (k + 2); place = 0; own = k + 1 };
  chain = λ k. slice_index (2 ∷ 1 ∷ []) k;
  worst = 4;
  trap = to_bytes 2 0xeeee;
  find = λ code at. branch_at_head short_words (0 ∷ 1 ∷ 2 ∷ []) (drop at code);
}
