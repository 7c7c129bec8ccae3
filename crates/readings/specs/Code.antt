-- A walk in the code, and what it means that draft and code agree.
use Rattle.std.specs.Prelude.{◌≡◌, ℕ, suc, ◌+◌, ◌-◌, Bool, false, cond, List, [], ◌∷◌, ℤ, pos, negsuc, Some, None, Option, ◌==◌, nat_lt}
use Rattle.std.proofs.Math.IntN.{sub_ℕ}
use Rattle.isa.specs.declared.jumps.Jump.{Jump}
use Rattle.isa.specs.declared.jumps.Jump.TheVariants.{Branch, Veneer}
use Rattle.readings.specs.Walk.{Step, stop, nowhere, on, RunsOff}
use Rattle.readings.specs.Agree.{Agrees}
use Rattle.readings.specs.Draft.{Truth, jumps, Draft, Item, item, piece, use_of, label, branch, gap, at, to, Destination, the_piece, the_kept, draft_step}

-- on to an offset by a displacement; before the beginning of the code there is nothing
abbrev pub by : ℕ → ℤ → Step ℕ Destination
by q (pos n) = on (q + n)
by q (negsuc n) = cond (nat_lt n q) (on (q - suc n)) nowhere

-- a step by what an instruction set finds at an offset: a branch jumps or is passed, a veneer leads on
abbrev pub follow : Truth → ℕ → Option Jump → Step ℕ Destination
follow τ q None = nowhere
follow τ q (Some (Branch r n d)) = cond (jumps τ r) (by q d) (on (q + n))
follow τ q (Some (Veneer d)) = by q d

-- the number of the piece that begins at an offset, where the first of these is the n-th
abbrev pub piece_at : List Item → ℕ → ℕ → Option ℕ
piece_at [] n q = None
piece_at (piece o k ∷ D) n q = cond (o == q) (Some n) (piece_at D (suc n) q)
piece_at (use_of o k c l ∷ D) n q = cond (o == q) (Some n) (piece_at D (suc n) q)
piece_at (label l ∷ D) n q = piece_at D n q
piece_at (branch l r ∷ D) n q = piece_at D n q
piece_at (gap ∷ D) n q = piece_at D n q

-- a place is this one
abbrev pub is_here : ℕ → Option ℕ → Bool
is_here q None = false
is_here q (Some n) = n == q

-- the label of the trap or constant that stands at an offset
abbrev pub kept_at : List ℕ → (ℕ → Option ℕ) → ℕ → Option ℕ
kept_at [] place q = None
kept_at (l ∷ ls) place q = cond (is_here q (place l)) (Some l) (kept_at ls place q)

-- where something of the draft begins the walk arrives, elsewhere it goes on
abbrev pub arrive : Option ℕ → Option ℕ → Step ℕ Destination → Step ℕ Destination
arrive (Some n) k otherwise = stop (the_piece n)
arrive None (Some l) otherwise = stop (the_kept l)
arrive None None otherwise = otherwise

-- A walk in the code arrives where a piece, a trap or a constant begins: a piece at the offset answered, the others at their
-- label. Elsewhere it takes the branch or veneer that the set finds, or runs off at none.
abbrev pub code_step : Draft → (ℕ → Option ℕ) → (ℕ → Option Jump) → Truth → ℕ → Step ℕ Destination
code_step D place found τ q = arrive (piece_at D.items 0 q) (kept_at D.kept place q) (follow τ q (found q))

-- Draft and code agree from every start, under one truth: from the beginning, from each label, from the end of each piece, and from each
-- piece's use, which is its label in the draft and in the code the target that its bytes read.
pub record Same (D : Draft) (place : ℕ → Option ℕ) (found : ℕ → Option Jump) (reads : ℕ → ℕ → ℤ) (τ : Truth) : Type 0 where
  pub from_beginning : Agrees (draft_step D τ) (code_step D place found τ) (at 0) 0
  pub from_label : (l q : ℕ) → place l ≡ Some q → Agrees (draft_step D τ) (code_step D place found τ) (to l) q
  pub from_unplaced : (l : ℕ) → place l ≡ None → RunsOff (draft_step D τ) (to l)
  pub from_piece : (n q k : ℕ) → item D n ≡ piece q k → Agrees (draft_step D τ) (code_step D place found τ) (at (suc n)) (q + k)
  pub from_user : (n q k c l : ℕ) → item D n ≡ use_of q k c l → Agrees (draft_step D τ) (code_step D place found τ) (at (suc n)) (q + k)
  pub from_use : (n q k c l : ℕ) → item D n ≡ use_of q k c l
      → (target : ℕ) × (reads c q ≡ sub_ℕ target q) × Agrees (draft_step D τ) (code_step D place found τ) (to l) target
