-- Tables within their capacities.
use Rattle.std.specs.Prelude.{◌≡◌, ◌+◌, ◌<◌, ◌≤◌, true, length}
use Rattle.model.specs.Capacities.{max_labels, max_fixups, max_branches, max_traps, max_constants, max_requests, max_regions}
use Rattle.model.specs.State.{State, is_open}
use Rattle.model.specs.Fixups.{waiting}

-- No table but the code has more rows than it may have, and an open region has room to be closed.
pub record Within (s : State) : Type 0 where
  pub labels_fit : length s.labels ≤ max_labels
  pub fixups_fit : waiting s ≤ max_fixups
  pub branches_fit : length s.branches ≤ max_branches
  pub traps_fit : length s.traps + length s.deferred ≤ max_traps
  pub constants_fit : length s.constants ≤ max_constants
  pub requests_fit : length s.requested + length s.placed ≤ max_requests
  pub regions_fit : length s.regions ≤ max_regions
  pub open_fits : is_open s ≡ true → length s.regions < max_regions
