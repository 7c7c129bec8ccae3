-- What holds of the standing branches, as facts that a buffer's type can hold.
use Rattle.std.specs.Prelude.{ℕ, ◌+◌, ◌<◌, ◌≤◌, List, length, slice_index_or}
use Rattle.model.specs.declared.rows.Branch.{Branch}
use Rattle.model.specs.Simplify.{no_branch}

-- each has bytes
abbrev pub Begun : List Branch → Type 0
Begun bs = (k : ℕ) → k < length bs → (slice_index_or bs k no_branch).start < (slice_index_or bs k no_branch).end

-- at most eight
abbrev pub Short : List Branch → Type 0
Short bs = (k : ℕ) → k < length bs → (slice_index_or bs k no_branch).end ≤ (slice_index_or bs k no_branch).start + 8

-- within code of c bytes
abbrev pub Within : ℕ → List Branch → Type 0
Within c bs = (k : ℕ) → k < length bs → (slice_index_or bs k no_branch).end ≤ c

-- each has its fixup among f fresh ones
abbrev pub Waiting : ℕ → List Branch → Type 0
Waiting f bs = (k : ℕ) → k < length bs → (slice_index_or bs k no_branch).fixup < f

-- the next begins where one ends, or later
abbrev pub InOrder : List Branch → Type 0
InOrder bs = (k : ℕ) → k + 1 < length bs → (slice_index_or bs k no_branch).end ≤ (slice_index_or bs (k + 1) no_branch).start

-- and its fixup is a later one
abbrev pub FixupsInOrder : List Branch → Type 0
FixupsInOrder bs = (k : ℕ) → k + 1 < length bs → (slice_index_or bs k no_branch).fixup < (slice_index_or bs (k + 1) no_branch).fixup
