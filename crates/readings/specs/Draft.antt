-- The draft: what the calls said, item by item, and a walk through it under one truth for every condition.
use Rattle.std.specs.Prelude.{ℕ, zero, suc, Bool, true, false, cond, ◌||◌, List, [], ◌∷◌, ◌==◌, slice_index_or}
use Rattle.std.specs.Bool.{beq}
use Rattle.isa.specs.declared.jumps.Condition.{Condition}
use Rattle.isa.specs.declared.jumps.Role.{Role}
use Rattle.isa.specs.declared.jumps.Role.TheVariants.{Unconditional, Conditional}
use Rattle.readings.specs.Walk.{Step, stop, nowhere, on}

-- one truth for each condition
abbrev pub Truth : Type 0
Truth = Condition → Bool

-- a conditional branch jumps where its condition's truth equals its sense
abbrev pub jumps : Truth → Role → Bool
jumps τ Unconditional = true
jumps τ (Conditional c sense) = beq (τ c) sense

-- what a call adds to the draft
pub data Item : Type 0 where
  piece : ℕ → ℕ → Item  -- bytes: the offset answered, and how many
  use_of : ℕ → ℕ → ℕ → ℕ → Item  -- bytes that refer to a label: the offset answered, how many, the kind of use, the label
  label : ℕ → Item  -- the label stands here
  branch : ℕ → Role → Item  -- to the label
  gap : Item  -- an alignment or an island: nothing is said of what comes here

-- the items, and the labels that were answered for a trap or a constant
pub record Draft : Type 0 where
  pub items : List Item
  pub kept : List ℕ

abbrev pub among : ℕ → List ℕ → Bool
among l [] = false
among l (m ∷ ms) = l == m || among l ms

-- the label is that of a trap or a constant
abbrev pub is_kept : Draft → ℕ → Bool
is_kept D l = among l D.kept

-- before the item of that number, or on the way to a label
pub data Position : Type 0 where
  at : ℕ → Position
  to : ℕ → Position

-- where a walk can arrive: at a piece, by its number among the pieces, or at the trap or constant of a label
pub data Destination : Type 0 where
  the_piece : ℕ → Destination
  the_kept : ℕ → Destination

-- the number of the item that places a label
pub data Placing : Type 0 where
  placed : ℕ → Placing
  unplaced : Placing

abbrev pub later : Placing → Placing
later (placed n) = placed (suc n)
later unplaced = unplaced

abbrev pub placing : List Item → ℕ → Placing
placing [] l = unplaced
placing (piece q k ∷ D) l = later (placing D l)
placing (use_of q k c m ∷ D) l = later (placing D l)
placing (label m ∷ D) l = cond (m == l) (placed zero) (later (placing D l))
placing (branch m r ∷ D) l = later (placing D l)
placing (gap ∷ D) l = later (placing D l)

abbrev pub enter : Placing → Step Position Destination
enter (placed n) = on (at n)
enter unplaced = nowhere

-- how many of the first n items are pieces
abbrev pub pieces_among : ℕ → List Item → ℕ
pieces_among zero D = 0
pieces_among (suc n) [] = 0
pieces_among (suc n) (piece q k ∷ D) = suc (pieces_among n D)
pieces_among (suc n) (use_of q k c l ∷ D) = suc (pieces_among n D)
pieces_among (suc n) (label l ∷ D) = pieces_among n D
pieces_among (suc n) (branch l r ∷ D) = pieces_among n D
pieces_among (suc n) (gap ∷ D) = pieces_among n D

-- a step from an item, which is the n-th; a piece there would be the m-th
abbrev pub pass : Truth → ℕ → ℕ → Item → Step Position Destination
pass τ n m (piece q k) = stop (the_piece m)
pass τ n m (use_of q k c l) = stop (the_piece m)
pass τ n m (label l) = on (at (suc n))
pass τ n m (branch l r) = on (cond (jumps τ r) (to l) (at (suc n)))
pass τ n m gap = nowhere

-- the item of that number; past the end there are gaps
abbrev pub item : Draft → ℕ → Item
item D n = slice_index_or D.items n gap

-- A walk in the draft passes labels, follows a branch that jumps to its label, passes one that does not, and arrives at a
-- piece, a trap or a constant. At a gap, at the end, or at a label that was never placed it runs off.
abbrev pub draft_step : Draft → Truth → Position → Step Position Destination
draft_step D τ (at n) = pass τ n (pieces_among n D.items) (item D n)
draft_step D τ (to l) = cond (is_kept D l) (stop (the_kept l)) (enter (placing D.items l))
