-- How labels may move.
use Rattle.std.specs.Prelude.{◌≡◌, ℕ, ◌<◌, ◌≤◌, ◌⊎◌, List, length}
use Rattle.model.specs.declared.rows.Label.{Label}
use Rattle.model.specs.declared.rows.Place.TheVariants.{At, AliasOf}
use Rattle.model.specs.Labels.{label_row}

-- it has become an alias
pub record IsAlias (after : Label) : Type 0 where
  pub to : ℕ
  pub aliased : after.place ≡ AliasOf to

-- it stands where it stood, or at a lower offset
pub record StandsNoLater (before after : Label) : Type 0 where
  pub from : ℕ
  pub to : ℕ
  pub stood : before.place ≡ At from
  pub stands : after.place ≡ At to
  pub no_later : to ≤ from

-- what may become of a label that stands somewhere
abbrev pub NeverForward : Label → Label → Type 0
NeverForward before after = IsAlias after ⊎ StandsNoLater before after

-- what may become of any label: an alias never changes
pub record Moves (before after : Label) : Type 0 where
  pub stays : (a : ℕ) → before.place ≡ AliasOf a → after ≡ before
  pub falls : (from : ℕ) → before.place ≡ At from → NeverForward before after
  pub reserved : after.reserved ≡ before.reserved

-- a table of labels and a later one
pub record Later (ls us : List Label) : Type 0 where
  pub more : length ls ≤ length us
  pub moves : (l : ℕ) → l < length ls → Moves (label_row ls l) (label_row us l)
