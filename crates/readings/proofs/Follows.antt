-- A layout follows a draft: at each cell and each label, what the code will do from there is what the draft does.
use Rattle.std.proofs.Common.{◌≡◌, ℕ, suc, ◌+◌, ◌≤◌, true, false, List}
use Rattle.readings.specs.Walk.{RunsOff}
use Rattle.readings.specs.Draft.{Truth, jumps, Draft, item, is_kept, piece, use_of, Position, at, to, draft_step}
use Rattle.readings.specs.Layout.{Target, waits, fixed, Body, bytes, refers, jump, veneer, kept, blank, Cell, Each, Entry, free, stands, alias, Labels}
use Rattle.readings.proofs.Ways.{Pace, any, moving, below, Way}
use Rattle.readings.proofs.Cells.{Means}

-- the layout is L, and its end means e
module _ (D : Draft) (τ : Truth) (L : List Cell) (e : Position) where
  -- from the position p the draft runs off, or comes to what the offset q means
  abbrev pub Heads : Pace → Position → ℕ → Type 0
  Heads m p q = Means L e q (Way (draft_step D τ) m p)

  -- to the target: a label, or what an offset means
  abbrev pub Aims : Pace → Position → Target → Type 0
  Aims m p (waits l) = Way (draft_step D τ) m p (to l) 0
  Aims m p (fixed q) = Heads m p q

  -- what is known of a body of k bytes at q that means p and has the rank r
  abbrev pub Does : Body → Position → ℕ → ℕ → ℕ → Type 0
  Does bytes p r q k = (n : ℕ) × (p ≡ at n) × (item D n ≡ piece q k) × Heads any (at (suc n)) (q + k)
  Does (refers c l x) p r q k = (n : ℕ) × (p ≡ at n) × (item D n ≡ use_of q k c l) × Heads any (at (suc n)) (q + k) × Aims any (to l) x
  Does (jump ρ x) p r q k = (jumps τ ρ ≡ true → Aims moving p x) × (jumps τ ρ ≡ false → Heads moving p (q + k))
  Does (veneer c x) p r q k = Aims (below r) p x
  Does (kept l) p r q k = (p ≡ to l) × (is_kept D l ≡ true)
  Does blank p r q k = RunsOff (draft_step D τ) p

  pub record Sound (c : Cell) (q : ℕ) : Type 0 where
    pub solid : 1 ≤ c.size
    pub does : Does c.body c.means c.rank q c.size

  -- What is known of a label. To where it stands the draft takes a step, or a rank of 0 is there: so a veneer patched to its label does
  -- not lead round to itself.
  abbrev pub Tells : ℕ → Entry → Type 0
  Tells l free = Unit {0}
  Tells l (stands q) = Heads (below 1) (to l) q
  Tells l (alias m) = Way (draft_step D τ) any (to l) (to m) 0

pub record Follows (D : Draft) (τ : Truth) (L : List Cell) (T : Labels) (e : Position) : Type 0 where
  pub start : Heads D τ L e any (at 0) 0
  pub cells : Each (Sound D τ L e) L
  pub labels : (l : ℕ) → Tells D τ L e l (T l)
