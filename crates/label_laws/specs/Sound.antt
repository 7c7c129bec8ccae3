-- What holds of labels, and of the tables that name them, after every call.
use Rattle.std.specs.Prelude.{◌≡◌, ℕ, ◌<◌, ◌≤◌, true, ◌≢◌, ◌⊎◌, List, [], ◌∷◌, ◌++◌, map, length, Some, None, Option, IsSomeAnd, slice_index_or}
use Rattle.std.specs.List.{AllByRecursion}
use Rattle.model.specs.declared.rows.Label.{Label}
use Rattle.model.specs.declared.rows.Place.TheVariants.{AliasOf}
use Rattle.model.specs.declared.rows.Fixup.{Fixup}
use Rattle.model.specs.declared.rows.Branch.{Branch}
use Rattle.model.specs.declared.rows.DeferredTrap.{DeferredTrap}
use Rattle.model.specs.declared.rows.Constant.{Constant}
use Rattle.model.specs.Capacities.{max_code, max_labels}
use Rattle.model.specs.State.{State}
use Rattle.model.specs.Labels.{alias_in, unbound, label_row}
use Rattle.label_laws.specs.Leads.{Leads}
use Rattle.label_laws.specs.Moves.{Later}

-- an alias of one of n labels
pub record AliasAmong (n : ℕ) (x : Label) : Type 0 where
  pub to : ℕ
  pub alias : x.place ≡ AliasOf to
  pub among : to < n

-- a row among n labels: no alias, or an alias of one of them
abbrev pub Row : ℕ → Label → Type 0
Row n x = (alias_in x.place ≡ None) ⊎ AliasAmong n x

-- a table of labels, of which each leads to one that is no alias
pub record Orderly (ls : List Label) : Type 0 where
  pub few : length ls ≤ max_labels
  pub rows : AllByRecursion (Row (length ls)) ls
  pub ends : (l : ℕ) → (m : ℕ) × Leads ls l m

-- a use waits for one of n labels
abbrev pub UseAmong : ℕ → Fixup → Type 0
UseAmong n f = f.label < n

-- a branch leads to one of n labels, and does not end before it starts
pub record BranchAmong (n : ℕ) (b : Branch) : Type 0 where
  pub forward : b.start ≤ b.end
  pub room : b.end ≤ max_code
  pub target : b.target < n

-- a label that an island will bind: it is reserved and unbound
pub record Waits (ls : List Label) (l : ℕ) : Type 0 where
  pub exists : l < length ls
  pub row : label_row ls l ≡ unbound true

-- a label is there, and waits
abbrev pub Awaited : List Label → Option ℕ → Type 0
Awaited ls o = IsSomeAnd o (Waits ls)

-- the label under which a constant is pending
abbrev pub label_of : List Constant → ℕ → Option ℕ
label_of cs n = (slice_index_or cs n (record { size = 0; align = 1; label = None })).label

-- the labels of the deferred traps and of the requested constants
abbrev pub pending : List DeferredTrap → List Constant → List ℕ → List (Option ℕ)
pending ds cs ns = map (λ (d : DeferredTrap). Some d.label) ds ++ map (label_of cs) ns

-- none comes twice
abbrev pub Distinct : {X : Type 0} → List X → Type 0
Distinct [] = Unit {0}
Distinct (x ∷ xs) = AllByRecursion (λ y. y ≢ x) xs × Distinct xs

-- The tables that have to do with labels: those of labels, branches, fresh and held fixups, deferred traps, constants and
-- requests. What branches and fixups name are labels of the table, and no two traps or constants have one label.
pub record Tables (ls : List Label) (bs : List Branch) (fs hs : List Fixup) (ds : List DeferredTrap) (cs : List Constant) (ns : List ℕ) : Type 0 where
  pub labels : Orderly ls
  pub branches : AllByRecursion (BranchAmong (length ls)) bs
  pub fresh : AllByRecursion (UseAmong (length ls)) fs
  pub held : AllByRecursion (UseAmong (length ls)) hs
  pub waits : AllByRecursion (Awaited ls) (pending ds cs ns)
  pub apart : Distinct (pending ds cs ns)

-- the tables of a buffer
abbrev pub Sound : State → Type 0
Sound s = Tables s.labels s.branches s.fresh s.held s.deferred s.constants s.requested

-- from a buffer to a later one
pub record Goes (s r : State) : Type 0 where
  pub sound : Sound r
  pub later : Later s.labels r.labels
