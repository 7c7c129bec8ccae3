-- The tables that a buffer holds.
use Rattle.model.specs.State.{State}
use Rattle.buffer.specs.declared.buffer.MachBuffer.{MachBuffer}
use Rattle.tables.specs.View as tables

abbrev pub view : {S : Type 0} → MachBuffer S → State
view b = tables.view b.tables
