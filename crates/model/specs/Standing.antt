-- What holds of every standing branch.
use Rattle.std.specs.Prelude.{ℕ, ◌+◌, ◌<◌, ◌≤◌, List, [], ◌∷◌, length, slice_index_or}
use Rattle.model.specs.declared.rows.Branch.{Branch}
use Rattle.model.specs.State.{State, cur_offset}
use Rattle.model.specs.Simplify.{no_branch}

-- It has bytes, at most eight, within the code; its fixup waits among the fresh ones; and the next branch comes after it, in
-- the code and among the fixups.
pub record Stands (c f : ℕ) (bs : List Branch) (k : ℕ) : Type 0 where
  pub begins : (slice_index_or bs k no_branch).start < (slice_index_or bs k no_branch).end
  pub short : (slice_index_or bs k no_branch).end ≤ (slice_index_or bs k no_branch).start + 8
  pub within : (slice_index_or bs k no_branch).end ≤ c
  pub waits : (slice_index_or bs k no_branch).fixup < f
  pub before_next : k + 1 < length bs → (slice_index_or bs k no_branch).end ≤ (slice_index_or bs (k + 1) no_branch).start
  pub earlier_fixup : k + 1 < length bs → (slice_index_or bs k no_branch).fixup < (slice_index_or bs (k + 1) no_branch).fixup

-- all branches of a table stand, in code of c bytes with f fresh fixups
abbrev pub AllStand : ℕ → ℕ → List Branch → Type 0
AllStand c f bs = (k : ℕ) → k < length bs → Stands c f bs k

-- where the first of some branches begins, or else an end
abbrev pub first_start : ℕ → List Branch → ℕ
first_start end [] = end
first_start end (b ∷ bs) = b.start

-- where the first standing branch begins, or else the current offset: simplifying reaches no further back
abbrev pub settled : State → ℕ
settled s = first_start (cur_offset s) s.branches
