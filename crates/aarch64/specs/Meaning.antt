-- What AArch64 means to a code buffer.
use Rattle.std.specs.Prelude.{ℕ, Bool, cond, ◌&&◌, List, [], ◌∷◌, ◌++◌, length, take, drop, pos, ◌+ℤ◌, Some, None, Option, ◌==◌, nat_le, nat_lt, slice_index}
use Rattle.std.specs.Option.{option_or}
use Rattle.bits.specs.Formats.{reading}
use Rattle.bits.specs.Words.{word, to_bytes}
use Rattle.isa.specs.declared.jumps.Jump.{Jump}
use Rattle.isa.specs.declared.jumps.Jump.TheVariants.{Veneer}
use Rattle.isa.specs.Isa.{Isa, Veneer as VeneerCode}
use Rattle.isa.specs.Words.{Encoding, reads, patched, outside, role, rest, inverted, branch_at_head}
use Rattle.aarch64.specs.Fields.{format}
use Rattle.aarch64.specs.Roles.{role_of, sense_bit}

abbrev pub aarch64_words : Encoding
aarch64_words = record { kinds = 6; format = format; role = role_of; sense = sense_bit }

-- b 0
abbrev pub short_veneer : VeneerCode
short_veneer = record { code = to_bytes 4 0x14000000; place = 0; own = 2 }

-- ldrsw x16, 16; adr x17, 12; add x16, x16, x17; br x16; and a word of data that is added
abbrev pub long_veneer : VeneerCode
long_veneer = record {
  code = to_bytes 4 0x98000090 ++ (to_bytes 4 0x10000071 ++ (to_bytes 4 0x8b110210 ++ (to_bytes 4 0xd61f0200 ++ to_bytes 4 0)));
  place = 16;
  own = 5;
}

-- the word at a place of the code
abbrev pub word_at : List ℕ → ℕ → ℕ
word_at code at = word 4 (take 4 (drop at code))

abbrev pub is_long_veneer : List ℕ → Bool
is_long_veneer code =
    nat_le 20 (length code) && (word_at code 0 == 0x98000090 && (word_at code 4 == 0x10000071 && (word_at code 8 == 0x8b110210 && word_at code 12 == 0xd61f0200)))

-- a long veneer at the head of the code leads to the target of its word of data
abbrev pub long_jump : List ℕ → Option Jump
long_jump code = cond (is_long_veneer code) (Some (Veneer (pos 16 +ℤ reading (format 5) (take 4 (drop 16 code))))) None

-- what jumps at the head of the code
abbrev pub jump_at_head : List ℕ → Option Jump
jump_at_head code = option_or (branch_at_head aarch64_words (0 ∷ 1 ∷ 2 ∷ []) code) (long_jump code)

abbrev pub aarch64 : Isa
aarch64 = record {
  align = 4;
  kinds = 6;
  max_pos = λ k. slice_index (32767 ∷ 1048575 ∷ 134217727 ∷ 1048575 ∷ 1048575 ∷ 2147483647 ∷ []) k;
  max_neg = λ k. slice_index (32768 ∷ 1048576 ∷ 134217728 ∷ 1048576 ∷ 1048576 ∷ 2147483648 ∷ []) k;
  size = λ k. 4;
  adds = λ k. (k == 5);
  reads = reads aarch64_words;
  patched = patched aarch64_words;
  outside = outside aarch64_words;
  role = role aarch64_words;
  rest = rest aarch64_words;
  inverted = λ k b. inverted aarch64_words b;
  supports = λ k. nat_lt k 3;
  veneer = λ k. cond (k == 2) long_veneer short_veneer;
  chain = λ k. slice_index (2 ∷ 2 ∷ 1 ∷ []) k;
  worst = 20;
  trap = to_bytes 4 0x0000c11f;
  find = λ code at. jump_at_head (drop at code);
}
