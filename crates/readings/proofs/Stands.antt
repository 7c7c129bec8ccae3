-- What stands at an offset of a grown layout: a step in the code stops at a piece, by its number, and at a trap or constant, by its
-- label, and elsewhere it takes what is found.
use Rattle.std.proofs.Common.{◌≡◌, ℕ, ◌+◌, ◌<◌, ◌≤◌, true, ◌↔◌, List, length, Some, None, Option, sym, refl, ap, ◌∙◌, subst, inl, inr, arith}
use lib.ListN.{get_or-eq_default}
use native.Mathlib.Decide.{dec_lt}
use Rattle.isa.specs.declared.jumps.Jump.{Jump}
use Rattle.readings.specs.Walk.{stop}
use Rattle.readings.specs.Draft.{Truth, Draft, Item, item, is_kept, piece, use_of, label, branch, gap, at, the_piece, the_kept, pieces_among}
use Rattle.readings.specs.Code.{follow, piece_at, kept_at, arrive, code_step}
use Rattle.readings.specs.Layout.{Body, bytes, refers, jump, veneer, kept, blank, Cell, free, stands, Labels, Resolves, found, through}
use Rattle.readings.specs.Growth.{Grows}
use Rattle.readings.proofs.Apart.{apart}
use Rattle.readings.proofs.Cells.{some_map, CellAt, one_cell}
use Rattle.readings.proofs.Grown.{grown_solid}
use Rattle.readings.proofs.Pieces.{Plain, Using, Home, Held, grown_covers}
use Rattle.readings.proofs.Kept.{Keeping, KeptAt, Kept, grown_kept}
use Rattle.readings.proofs.Steps.{Starts, piece_there, no_piece_there, kept_there, no_kept_there}

-- the body of a piece, with or without a use
abbrev pub Piece : Body → Type 0
Piece bytes = Unit {0}
Piece (refers c l x) = Unit {0}
Piece (jump ρ x) = ⊥
Piece (veneer c x) = ⊥
Piece (kept l) = ⊥
Piece blank = ⊥

-- the cell of the piece that is the item i
abbrev OfItem : ℕ → Cell → Type 0
OfItem i c = (c.means ≡ at i) × Piece c.body

plain_piece : (b : Body) → Plain b → Piece b
plain_piece bytes h = tt
plain_piece (refers c l x) h = tt
plain_piece (jump ρ x) h = h
plain_piece (veneer c x) h = h
plain_piece (kept l) h = h
plain_piece blank h = h

using_piece : (c l : ℕ) (b : Body) → Using c l b → Piece b
using_piece c l bytes h = tt
using_piece c l (refers d m x) h = tt
using_piece c l (jump ρ x) h = h
using_piece c l (veneer d x) h = h
using_piece c l (kept m) h = h
using_piece c l blank h = h

not_free : (T : Labels) {l q : ℕ} → Resolves T l q → T l ≡ free → ⊥
not_free T (found h) f = apart (cc)
not_free T (through h r) f = apart (cc)

resolves_there : (T : Labels) {l q : ℕ} (n : ℕ) → Resolves T l q → T l ≡ stands n → n ≡ q
resolves_there T n (found h) f = cc
resolves_there T n (through h r) f = apart (cc)

-- an item that is no gap stands before the end
pub within : (D : Draft) (i t : ℕ) → length D.items ≤ t → (item D i ≡ gap → ⊥) → i < t
within D i t h other = go (dec_lt i t)
  where
    go : Dec (i < t) → i < t
    go (yes a) = a
    go (no a) = absurd (other (get_or-eq_default D.items gap {n = i} (omega arith)))

module _ (D : Draft) (L : List Cell) (T : Labels) (t f : ℕ) (grows : Grows D L T t f) (all : length D.items ≤ t) where
  -- each piece of the draft has its cell
  pub held : (i : ℕ) (x : Item) → item D i ≡ x → (x ≡ gap → ⊥) → Held i x L
  held i x h other = subst (λ (y : Item). Held i y L) h (grown_covers grows i (within D i t all (λ z. other (sym h ∙ z))))

  piece_cell : (i q : ℕ) (x : Item) → item D i ≡ x → Starts q x → CellAt q (OfItem i) L
  piece_cell i q (piece o k) h s =
      some_map (Home Plain i o k) (λ x n. (n ≡ q) × OfItem i x) (λ x n a. (a.0 ∙ s, (a.2, plain_piece x.body a.3))) L
      (held i (piece o k) h (λ z. apart (cc)))
  piece_cell i q (use_of o k c l) h s =
      some_map (Home (Using c l) i o k) (λ x n. (n ≡ q) × OfItem i x) (λ x n a. (a.0 ∙ s, (a.2, using_piece c l x.body a.3))) L
      (held i (use_of o k c l) h (λ z. apart (cc)))
  piece_cell i q (label l) h s = absurd s
  piece_cell i q (branch l r) h s = absurd s
  piece_cell i q gap h s = absurd s

  -- two pieces never begin at one offset
  one_piece : (i j q : ℕ) → Starts q (item D i) → Starts q (item D j) → i ≡ j
  one_piece i j q s z =
      let c = one_cell (OfItem i) (OfItem j) q L (grown_solid grows)
      (piece_cell i q (item D i) refl s) (piece_cell j q (item D j) refl z) in
      let a = c.1.0 in let b = c.2.0 in cc

  finds_piece : (i q : ℕ) → Starts q (item D i) → piece_at D.items 0 q ≡ Some (pieces_among i D.items)
  finds_piece i q s =
      let e : 0 + pieces_among i D.items ≡ pieces_among i D.items = omega arith in
      piece_there D.items i 0 q s (λ j less z. let k = one_piece i j q s z in omega arith) ∙ ap Some e

  finds_no_piece : (b : Body) (q : ℕ) → (Piece b → ⊥) → CellAt q (λ x. x.body ≡ b) L → piece_at D.items 0 q ≡ None
  finds_no_piece b q other here =
      no_piece_there D.items 0 q (λ j s.
      let c = one_cell (λ x. x.body ≡ b) (OfItem j) q L (grown_solid grows) here (piece_cell j q (item D j) refl s) in
      other (subst Piece c.1 c.2.1))

  -- the cell of a trap or constant stands where its label is
  kept_cell : (m q : ℕ) → Resolves T m q → Kept T L m → CellAt q (λ x. Keeping m x.body) L
  kept_cell m q r (inl z) = absurd (not_free T r z)
  kept_cell m q r (inr a) =
      some_map (KeptAt T m) (λ c n. (n ≡ q) × Keeping m c.body) (λ c n x. (resolves_there T n r x.1, x.0)) L a

  module _ (place : ℕ → Option ℕ) (tied : (l q : ℕ) → Resolves T l q ↔ (place l ≡ Some q)) where
    -- the body where a kept label is, is that of the trap or constant
    keeps : (b : Body) (m q : ℕ) → CellAt q (λ x. x.body ≡ b) L → is_kept D m ≡ true → place m ≡ Some q → Keeping m b
    keeps b m q here h p =
        let c = one_cell (λ x. x.body ≡ b) (λ x. Keeping m x.body) q L (grown_solid grows) here (kept_cell m q ((tied m q).1 p) (grown_kept grows m h)) in
        subst (Keeping m) c.1 c.2

    module _ (found_at : ℕ → Option Jump) (τ : Truth) where
      -- a walk in the code stops at a piece, by its number among the pieces
      pub at_piece : (i q : ℕ) → Starts q (item D i) → code_step D place found_at τ q ≡ stop (the_piece (pieces_among i D.items))
      at_piece i q s = ap (λ x. arrive x (kept_at D.kept place q) (follow τ q (found_at q))) (finds_piece i q s)

      -- it stops at a trap or constant, by its label
      pub at_kept : (l q : ℕ) → CellAt q (λ x. x.body ≡ kept l) L → is_kept D l ≡ true → T l ≡ stands q → code_step D place found_at τ q ≡ stop (the_kept l)
      at_kept l q here h s =
          ap (λ x. arrive x (kept_at D.kept place q) (follow τ q (found_at q))) (finds_no_piece (kept l) q (λ z. z) here)
          ∙ ap (λ x. arrive None x (follow τ q (found_at q)))
          (kept_there D.kept place l q h ((tied l q).0 (found s)) (λ m a p. sym (keeps (kept l) m q here a p)))

      -- at any other cell it takes what is found there
      pub elsewhere : (b : Body) (q : ℕ) → (Piece b → ⊥) → ((l : ℕ) → Keeping l b → ⊥) → CellAt q (λ x. x.body ≡ b) L → code_step D place found_at τ q ≡ follow τ q (found_at q)
      elsewhere b q no-piece no-kept here =
          ap (λ x. arrive x (kept_at D.kept place q) (follow τ q (found_at q))) (finds_no_piece b q no-piece here)
          ∙ ap (λ x. arrive None x (follow τ q (found_at q))) (no_kept_there D.kept place q (λ m a p. no-kept m (keeps b m q here a p)))
