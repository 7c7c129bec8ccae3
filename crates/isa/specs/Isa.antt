-- The meaning of an instruction set: numbers and functions, and no code.
--
-- A set has kinds of use, numbered from 0. A use of a kind is `size` bytes of code that refer to a label by a
-- displacement, which is the label's offset less the use's own. Everything above this crate is proved over any
-- value of this record that keeps the laws of `Laws`, so no proof there knows a concrete set.
use Rattle.std.specs.Prelude.{◌≡◌, ℕ, ◌+◌, ◌%◌, ◌<◌, Bool, true, List, ◌++◌, length, take, drop, ℤ, pos, ◌+ℤ◌, ◌≤ℤ◌, Option, unsigned_abs}
use Rattle.isa.specs.declared.jumps.Role.{Role}
use Rattle.isa.specs.declared.jumps.Jump.{Jump}

-- A veneer is a longer jump on behalf of a use. Its own use, of kind `own`, stands `place` bytes into it.
pub record Veneer : Type 0 where
  pub code : List ℕ
  pub place : ℕ
  pub own : ℕ

pub record Isa : Type 0 where
  pub align : ℕ  -- every use, veneer, trap and label stands at a multiple of it
  pub kinds : ℕ  -- how many
  pub max_pos : ℕ → ℕ  -- how far ahead a use of the kind reaches
  pub max_neg : ℕ → ℕ  -- and how far back
  pub size : ℕ → ℕ  -- its bytes
  pub adds : ℕ → Bool  -- a patch adds to what the bytes hold, which must be 0
  pub reads : ℕ → List ℕ → ℤ  -- the displacement that the bytes hold
  pub patched : ℕ → List ℕ → ℤ → List ℕ  -- the bytes with a displacement
  pub outside : ℕ → List ℕ → List ℕ  -- the bytes with the field of the displacement cleared
  pub role : ℕ → List ℕ → Option Role  -- of bytes that are a branch
  pub rest : ℕ → List ℕ → List ℕ  -- the bytes of a conditional with the field and the sense cleared
  pub inverted : ℕ → List ℕ → List ℕ  -- the bytes of a conditional with the other sense
  pub supports : ℕ → Bool  -- the kind has a veneer
  pub veneer : ℕ → Veneer
  pub chain : ℕ → ℕ  -- how many veneers can follow one another from a use of the kind
  pub worst : ℕ  -- the length of the longest veneer
  pub trap : List ℕ
  pub find : List ℕ → ℕ → Option Jump  -- what jumps at an offset of some code, by the code's bytes alone

-- a displacement that a use of kind k can hold
pub record Reaches (i : Isa) (k : ℕ) (d : ℤ) : Type 0 where
  pub whole : unsigned_abs d % i.align ≡ 0
  pub up : d ≤ℤ pos (i.max_pos k)
  pub down : pos 0 ≤ℤ (d +ℤ pos (i.max_neg k))

-- what a patch may be asked for
pub record Patchable (i : Isa) (k : ℕ) (b : List ℕ) (d : ℤ) : Type 0 where
  pub kind : k < i.kinds
  pub long : length b ≡ i.size k
  pub reach : Reaches i k d
  pub fresh : i.adds k ≡ true → i.reads k b ≡ pos 0

-- the bytes of a use of kind k at an offset of some code
abbrev pub bytes_at : Isa → ℕ → List ℕ → ℕ → List ℕ
bytes_at i k code at = take (i.size k) (drop at code)

-- the code with the use of kind k at an offset patched
abbrev pub patched_at : Isa → ℕ → List ℕ → ℕ → ℤ → List ℕ
patched_at i k code at d = take at code ++ (i.patched k (bytes_at i k code at) d ++ drop (at + i.size k) code)
