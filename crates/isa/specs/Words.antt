-- Sets whose uses are words of four bytes.
use Rattle.std.specs.Prelude.{ℕ, List, ℤ, Option}
use Rattle.bits.specs.Fields.{put, flip}
use Rattle.bits.specs.Formats.{Format, reading, patching, clearing, clear_field}
use Rattle.bits.specs.Words.{word, to_bytes}
use Rattle.isa.specs.declared.jumps.Jump.{Jump}
use Rattle.isa.specs.declared.jumps.Role.{Role}
use Rattle.isa.specs.Finding.{branch_among}

-- what is particular to such a set
pub record Encoding : Type 0 where
  pub kinds : ℕ
  pub format : ℕ → Format  -- where a kind's displacement stands
  pub role : ℕ → ℕ → Option Role  -- of a word as a use of a kind
  pub sense : ℕ → ℕ  -- the bit of a word that holds a conditional's sense

module _ (e : Encoding) where
  abbrev pub reads : ℕ → List ℕ → ℤ
  reads k b = reading (e.format k) b

  abbrev pub patched : ℕ → List ℕ → ℤ → List ℕ
  patched k b d = patching (e.format k) b d

  abbrev pub outside : ℕ → List ℕ → List ℕ
  outside k b = clearing (e.format k) b

  abbrev pub role : ℕ → List ℕ → Option Role
  role k b = e.role k (word 4 b)

  -- the word with its sense turned round
  abbrev pub turned : ℕ → ℕ
  turned w = flip (e.sense w) w

  abbrev pub inverted : List ℕ → List ℕ
  inverted b = to_bytes 4 (turned (word 4 b))

  -- the word with the field of kind k and the sense cleared
  abbrev pub rest_word : ℕ → ℕ → ℕ
  rest_word k w = put (e.sense w) 1 (clear_field (e.format k) w) 0

  abbrev pub rest : ℕ → List ℕ → List ℕ
  rest k b = to_bytes 4 (rest_word k (word 4 b))

  -- the branch of the first of some kinds that the head of the code is one of
  abbrev pub branch_at_head : List ℕ → List ℕ → Option Jump
  branch_at_head ks code = branch_among (λ k. 4) role reads ks code
