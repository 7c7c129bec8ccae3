-- Constants.
use Rattle.std.specs.Prelude.{ℕ, Bool, ◌&&◌, List, None, Option, nat_le, nat_lt, slice_index_or, slice_set}
use Rattle.isa.specs.Isa.{Isa}
use Rattle.model.specs.declared.rows.Constant.{Constant}
use Rattle.model.specs.State.{State}
use Rattle.model.specs.Code.{is_alignment}

-- the size is 1 to 256 and the alignment a power of two, from the set's own to 64
abbrev pub is_constant : Isa → ℕ → ℕ → Bool
is_constant i size align = nat_lt 0 size && nat_le size 256 && is_alignment align && nat_le i.align align

-- the row of a constant
abbrev pub constant_row : State → ℕ → Constant
constant_row s n = slice_index_or s.constants n (record { size = 0; align = 1; label = None })

-- the constants with one pending under a label, or no longer pending
abbrev pub label_constant : State → ℕ → Option ℕ → List Constant
label_constant s n l = slice_set s.constants n (record { size = (constant_row s n).size; align = (constant_row s n).align; label = l })
