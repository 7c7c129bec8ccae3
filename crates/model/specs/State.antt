-- The tables of a buffer.
use Rattle.std.specs.Prelude.{ℕ, Bool, false, List, [], length, is_some, None, Option}
use Rattle.model.specs.declared.rows.Label.{Label}
use Rattle.model.specs.declared.rows.Fixup.{Fixup}
use Rattle.model.specs.declared.rows.Branch.{Branch}
use Rattle.model.specs.declared.rows.DeferredTrap.{DeferredTrap}
use Rattle.model.specs.declared.rows.Trap.{Trap}
use Rattle.model.specs.declared.rows.Constant.{Constant}
use Rattle.model.specs.declared.rows.PlacedConstant.{PlacedConstant}
use Rattle.model.specs.declared.rows.Region.{Region}

-- what a buffer holds
pub record State : Type 0 where
  pub code : List ℕ  -- the bytes so far
  pub labels : List Label
  pub fresh : List Fixup  -- fixups that no island has seen yet, in the order of their making
  pub held : List Fixup  -- fixups that an island has put aside, by deadline
  pub deadline : ℕ  -- the least deadline of the fresh fixups since its reset, less the alignment
  pub branches : List Branch  -- the standing branches: those that simplifying may still change
  pub deferred : List DeferredTrap  -- traps that the next island writes
  pub traps : List Trap  -- traps on record
  pub constants : List Constant  -- the constants registered
  pub requested : List ℕ  -- constants that the next island places, by number
  pub placed : List PlacedConstant
  pub regions : List Region  -- closed regions
  pub opened : Option ℕ  -- where the open region begins
  pub broken : Bool  -- an island has failed, and nothing more is built

-- where a label is that stands nowhere, and the cap of deadlines and thresholds
abbrev pub unknown : ℕ
unknown = 4294967295

-- a new buffer
abbrev pub empty : State
empty = record { code = []; labels = []; fresh = []; held = []; deadline = unknown; branches = []; deferred = []; traps = []; constants = []; requested = []; placed = []; regions = []; opened = None; broken = false }

-- the current offset: where the next byte goes
abbrev pub cur_offset : State → ℕ
cur_offset s = length s.code

-- a region is open
abbrev pub is_open : State → Bool
is_open s = is_some s.opened

-- the tables with one of them replaced
abbrev pub with_code : State → List ℕ → State
with_code s x = record { code = x; labels = s.labels; fresh = s.fresh; held = s.held; deadline = s.deadline; branches = s.branches; deferred = s.deferred; traps = s.traps; constants = s.constants; requested = s.requested; placed = s.placed; regions = s.regions; opened = s.opened; broken = s.broken }

abbrev pub with_labels : State → List Label → State
with_labels s x = record { code = s.code; labels = x; fresh = s.fresh; held = s.held; deadline = s.deadline; branches = s.branches; deferred = s.deferred; traps = s.traps; constants = s.constants; requested = s.requested; placed = s.placed; regions = s.regions; opened = s.opened; broken = s.broken }

abbrev pub with_fresh : State → List Fixup → State
with_fresh s x = record { code = s.code; labels = s.labels; fresh = x; held = s.held; deadline = s.deadline; branches = s.branches; deferred = s.deferred; traps = s.traps; constants = s.constants; requested = s.requested; placed = s.placed; regions = s.regions; opened = s.opened; broken = s.broken }

abbrev pub with_held : State → List Fixup → State
with_held s x = record { code = s.code; labels = s.labels; fresh = s.fresh; held = x; deadline = s.deadline; branches = s.branches; deferred = s.deferred; traps = s.traps; constants = s.constants; requested = s.requested; placed = s.placed; regions = s.regions; opened = s.opened; broken = s.broken }

abbrev pub with_deadline : State → ℕ → State
with_deadline s x = record { code = s.code; labels = s.labels; fresh = s.fresh; held = s.held; deadline = x; branches = s.branches; deferred = s.deferred; traps = s.traps; constants = s.constants; requested = s.requested; placed = s.placed; regions = s.regions; opened = s.opened; broken = s.broken }

abbrev pub with_branches : State → List Branch → State
with_branches s x = record { code = s.code; labels = s.labels; fresh = s.fresh; held = s.held; deadline = s.deadline; branches = x; deferred = s.deferred; traps = s.traps; constants = s.constants; requested = s.requested; placed = s.placed; regions = s.regions; opened = s.opened; broken = s.broken }

abbrev pub with_deferred : State → List DeferredTrap → State
with_deferred s x = record { code = s.code; labels = s.labels; fresh = s.fresh; held = s.held; deadline = s.deadline; branches = s.branches; deferred = x; traps = s.traps; constants = s.constants; requested = s.requested; placed = s.placed; regions = s.regions; opened = s.opened; broken = s.broken }

abbrev pub with_traps : State → List Trap → State
with_traps s x = record { code = s.code; labels = s.labels; fresh = s.fresh; held = s.held; deadline = s.deadline; branches = s.branches; deferred = s.deferred; traps = x; constants = s.constants; requested = s.requested; placed = s.placed; regions = s.regions; opened = s.opened; broken = s.broken }

abbrev pub with_constants : State → List Constant → State
with_constants s x = record { code = s.code; labels = s.labels; fresh = s.fresh; held = s.held; deadline = s.deadline; branches = s.branches; deferred = s.deferred; traps = s.traps; constants = x; requested = s.requested; placed = s.placed; regions = s.regions; opened = s.opened; broken = s.broken }

abbrev pub with_requested : State → List ℕ → State
with_requested s x = record { code = s.code; labels = s.labels; fresh = s.fresh; held = s.held; deadline = s.deadline; branches = s.branches; deferred = s.deferred; traps = s.traps; constants = s.constants; requested = x; placed = s.placed; regions = s.regions; opened = s.opened; broken = s.broken }

abbrev pub with_placed : State → List PlacedConstant → State
with_placed s x = record { code = s.code; labels = s.labels; fresh = s.fresh; held = s.held; deadline = s.deadline; branches = s.branches; deferred = s.deferred; traps = s.traps; constants = s.constants; requested = s.requested; placed = x; regions = s.regions; opened = s.opened; broken = s.broken }

abbrev pub with_regions : State → List Region → State
with_regions s x = record { code = s.code; labels = s.labels; fresh = s.fresh; held = s.held; deadline = s.deadline; branches = s.branches; deferred = s.deferred; traps = s.traps; constants = s.constants; requested = s.requested; placed = s.placed; regions = x; opened = s.opened; broken = s.broken }

abbrev pub with_opened : State → Option ℕ → State
with_opened s x = record { code = s.code; labels = s.labels; fresh = s.fresh; held = s.held; deadline = s.deadline; branches = s.branches; deferred = s.deferred; traps = s.traps; constants = s.constants; requested = s.requested; placed = s.placed; regions = s.regions; opened = x; broken = s.broken }

abbrev pub with_broken : State → Bool → State
with_broken s x = record { code = s.code; labels = s.labels; fresh = s.fresh; held = s.held; deadline = s.deadline; branches = s.branches; deferred = s.deferred; traps = s.traps; constants = s.constants; requested = s.requested; placed = s.placed; regions = s.regions; opened = s.opened; broken = x }
