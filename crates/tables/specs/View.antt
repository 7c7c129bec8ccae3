-- The tables of the definitions that tables in memory stand for.
use Rattle.std.specs.Prelude.{vec_items}
use Rattle.model.specs.State.{State}
use Rattle.tables.specs.declared.tables.Tables.{Tables}

abbrev pub view : Tables → State
view b = record {
  code = vec_items b.code.rows;
  labels = vec_items b.labels.rows;
  fresh = vec_items b.fresh.rows;
  held = vec_items b.held.rows;
  deadline = b.deadline;
  branches = vec_items b.branches.rows;
  deferred = vec_items b.deferred.rows;
  traps = vec_items b.traps.rows;
  constants = vec_items b.constants.rows;
  requested = vec_items b.requested.rows;
  placed = vec_items b.placed.rows;
  regions = vec_items b.regions.rows;
  opened = b.opened;
  broken = b.broken;
}
