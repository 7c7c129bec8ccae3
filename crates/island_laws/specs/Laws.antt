-- What holds of every island, after any list of calls. Where an island breaks off, the laws are about the tables that it
-- has reached.
use Rattle.std.specs.Prelude.{◌≡◌, ℕ, ◌+◌, Bool, false, ◌≢◌, ◌⊎◌, List}
use Rattle.isa.specs.Isa.{Isa}
use Rattle.isa.specs.Laws.{Lawful}
use Rattle.model.specs.declared.rows.Fixup.{Fixup}
use Rattle.model.specs.declared.rows.Place.TheVariants.{Nowhere}
use Rattle.model.specs.State.{State}
use Rattle.model.specs.Labels.{label_row}
use Rattle.model.specs.Fixups.{waiting}
use Rattle.model.specs.Progress.{Progress}
use Rattle.model.specs.Islands.{island}
use Rattle.model.specs.Uses.{Uses}
use Rattle.model.specs.Steps.{Call}
use Rattle.model.specs.Runs.{run}
use Rattle.island_laws.specs.Waiting.{Waits, StillWaits, Outcome, OfVeneer, InFieldsOnly}

-- of every island after a list of calls to a lawful set that has not finished
abbrev pub OfEveryIsland : (Isa → State → Progress → Type 0) → Type 0
OfEveryIsland Law = (i : Isa) → Lawful i → (calls : List Call) → (run i calls).finished ≡ false → (force : Bool) (distance : ℕ) → let s = (run i calls).state in Law i s (island i force distance s)

-- A label that stands at an offset, or is an alias, has the same row after an island. This holds of any set.
abbrev pub IslandsMoveNoLabel : Type 0
IslandsMoveNoLabel =
    (i : Isa) (calls : List Call) (force : Bool) (distance l : ℕ) → let s = (run i calls).state in
    (label_row s.labels l).place ≢ Nowhere → label_row (island i force distance s).state.labels l ≡ label_row s.labels l

-- Of the code before an island, it changes nothing but fields of uses that wait; and the code only grows.
abbrev pub IslandsWriteInFieldsOnly : Type 0
IslandsWriteInFieldsOnly = OfEveryIsland (λ i s p. InFieldsOnly i s p.state)

-- Each use that waits before an island waits after it, with the same bytes, or is patched to where its label stood before, or
-- to a whole veneer behind the code of before, whose own use waits.
abbrev pub PatchedUsesRead : Type 0
PatchedUsesRead = OfEveryIsland (λ i s p. (f : Fixup) → Waits s f → Outcome i s p.state f)

-- No use is lost or doubled. Each that waits after an island waited before it, with the same bytes, or is the own use of a veneer
-- that was made for one that did; the numbers agree; and no two share a byte.
pub record Accounted (i : Isa) (s : State) (p : Progress) : Type 0 where
  pub each : (g : Fixup) → Waits p.state g → (Waits s g × StillWaits i s p.state g) ⊎ OfVeneer i s p.state g
  pub even : waiting s + p.made ≡ p.patched + waiting p.state
  pub uses : Uses i p.state.code p.state.held p.state.fresh

abbrev pub NoUseLostOrDoubled : Type 0
NoUseLostOrDoubled = OfEveryIsland Accounted
