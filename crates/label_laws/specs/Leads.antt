-- Where labels lead along their aliases.
use Rattle.std.specs.Prelude.{◌≡◌, ℕ, ◌<◌, List, length, Some, None}
use Rattle.model.specs.declared.rows.Label.{Label}
use Rattle.model.specs.Labels.{alias_in, label_row, root}

-- A label leads along aliases to one that is none.
pub data Leads (ls : List Label) : ℕ → ℕ → Type 0 where
  here : {l : ℕ} → alias_in (label_row ls l).place ≡ None → Leads ls l l
  on : {l m : ℕ} (a : ℕ) → alias_in (label_row ls l).place ≡ Some a → Leads ls a m → Leads ls l m

-- a label's aliases end, at a label of the table that is no alias, and `root` finds it
pub record Ends (ls : List Label) (l : ℕ) : Type 0 where
  pub leads : Leads ls l (root ls l)
  pub nowhere_else : (m : ℕ) → Leads ls l m → m ≡ root ls l
  pub unaliased : alias_in (label_row ls (root ls l)).place ≡ None
  pub exists : root ls l < length ls
