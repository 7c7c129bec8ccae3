-- When there is no room for more.
use Rattle.std.specs.Prelude.{ℕ, ◌+◌, Bool, length, nat_le, nat_lt}
use Rattle.model.specs.Capacities.{max_code, max_labels, max_fixups, max_branches, max_traps, max_constants, max_requests, max_regions}
use Rattle.model.specs.State.{State, cur_offset}
use Rattle.model.specs.Fixups.{waiting}

-- so many bytes more are too many
abbrev pub no_room : State → ℕ → Bool
no_room s n = nat_lt max_code (cur_offset s + n)

-- there are as many labels as there may be
abbrev pub labels_full : State → Bool
labels_full s = nat_le max_labels (length s.labels)

-- as many fixups wait, fresh or held, as may
abbrev pub fixups_full : State → Bool
fixups_full s = nat_le max_fixups (waiting s)

-- as many branches stand as may
abbrev pub branches_full : State → Bool
branches_full s = nat_le max_branches (length s.branches)

-- traps on record and deferred ones count together, so that an island always has room for its traps
abbrev pub traps_full : State → Bool
traps_full s = nat_le max_traps (length s.traps + length s.deferred)

-- as many constants are registered as may be
abbrev pub constants_full : State → Bool
constants_full s = nat_le max_constants (length s.constants)

-- every request that was granted a label of its own counts, placed or not
abbrev pub requests_full : State → Bool
requests_full s = nat_le max_requests (length s.requested + length s.placed)

-- there are as many regions as there may be, where none is open
abbrev pub regions_full : State → Bool
regions_full s = nat_le max_regions (length s.regions)
