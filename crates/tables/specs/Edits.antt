-- What is done to several tables at once.
use Rattle.std.specs.Prelude.{ℕ, ◌+◌, ◌-◌, min, List, [], ◌∷◌, ◌++◌, length, take, Option, slice_index_or, slice_set}
use Rattle.std.specs.Option.{option_map}
use Rattle.model.specs.declared.rows.Fixup.{Fixup}
use Rattle.model.specs.Calls.{widened}
use Rattle.model.specs.Simplify.{no_branch, no_fixup, last_branch, turned, relabelled}
use Rattle.model.specs.State.{State, cur_offset, with_code, with_fresh, with_deadline, with_branches}

-- bytes with a fixup for them, which the fresh deadline counts as a number
abbrev pub with_use : State → Fixup → ℕ → List ℕ → State
with_use s f soon bytes = with_code (with_deadline (with_fresh s (s.fresh ++ f ∷ [])) (min s.deadline soon)) (s.code ++ bytes)

-- a branch that stands, with a fixup for it
abbrev pub with_branch : State → Fixup → ℕ → List ℕ → Option (List ℕ) → State
with_branch s f soon bytes inverted =
    with_branches (with_use s f soon bytes)
    (s.branches ++ record { start = cur_offset s; end = cur_offset s + length bytes; target = f.label; fixup = length s.fresh; bytes = widened bytes; inverted = option_map widened inverted } ∷ [])

-- the last branch goes, with its bytes and its fixup
abbrev pub drop_last : State → State
drop_last s =
    with_code (with_fresh (with_branches s (take (length s.branches - 1) s.branches)) (take (length s.fresh - 1) s.fresh)) (take (last_branch s).start s.code)

-- a branch is turned round where it has an inversion, and leads to another label
abbrev pub turn_branch : State → ℕ → ℕ → State
turn_branch s n l = with_branches s (slice_set s.branches n (turned (slice_index_or s.branches n no_branch) l))

-- a fixup takes another label
abbrev pub retarget : State → ℕ → ℕ → State
retarget s n l = with_fresh s (slice_set s.fresh n (relabelled (slice_index_or s.fresh n no_fixup) l))
