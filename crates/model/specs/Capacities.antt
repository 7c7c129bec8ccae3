-- How much a buffer can hold.
use Rattle.std.specs.Prelude.{ℕ}

-- bytes of code
abbrev pub max_code : ℕ
max_code = 65536

-- labels, those of traps and constants too
abbrev pub max_labels : ℕ
max_labels = 4096

-- fixups that wait
abbrev pub max_fixups : ℕ
max_fixups = 4096

-- branches that stand
abbrev pub max_branches : ℕ
max_branches = 512

-- traps, deferred or on record
abbrev pub max_traps : ℕ
max_traps = 512

-- constants registered
abbrev pub max_constants : ℕ
max_constants = 512

-- requests of constants, from the beginning on
abbrev pub max_requests : ℕ
max_requests = 512

-- regions, closed or open
abbrev pub max_regions : ℕ
max_regions = 64

-- labels at the start of a branch that simplifying may take
abbrev pub max_labels_at_branch : ℕ
max_labels_at_branch = 100
