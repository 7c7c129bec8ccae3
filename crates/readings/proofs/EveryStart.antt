-- The theorem: code in which a grown layout is written agrees with the draft from every start.
use Rattle.std.proofs.Common.{◌≡◌, ℕ, suc, ◌+◌, ◌≤◌, true, ◌↔◌, List, length, ℤ, Some, None, Option, sym, ap, ◌∙◌, subst, inl, inr}
use lib.IntN.{sub_ℕ}
use Rattle.isa.specs.declared.jumps.Jump.{Jump}
use Rattle.readings.specs.Walk.{RunsOff}
use Rattle.readings.specs.Agree.{Agrees}
use Rattle.readings.specs.Draft.{Truth, Draft, is_kept, piece, use_of, Position, at, to, draft_step}
use Rattle.readings.specs.Code.{code_step}
use Rattle.readings.specs.Layout.{waits, fixed, Body, bytes, refers, jump, veneer, kept, blank, Cell, free, Labels, Resolves}
use Rattle.readings.specs.Growth.{Grows}
use Rattle.readings.specs.Layouts.{Written, AllWritten, LayoutsAgree}
use Rattle.readings.proofs.Apart.{apart}
use Rattle.readings.proofs.Ways.{any, below}
use Rattle.readings.proofs.Cells.{some_each}
use Rattle.readings.proofs.Follows.{Heads, Does}
use Rattle.readings.proofs.Carry.{resolves_heads}
use Rattle.readings.proofs.Grown.{grown_follows}
use Rattle.readings.proofs.Pieces.{Plain, Using, Home, Held}
use Rattle.readings.proofs.Aliases.{Settles, grown_settles}
use Rattle.readings.proofs.Stands.{held}
use Rattle.readings.proofs.Unplaced.{dangles_nowhere}
use Rattle.readings.proofs.Agreement.{agrees_at, Whole, whole}

module _ (D : Draft) (L : List Cell) (T : Labels) (t f : ℕ) (grows : Grows D L T t f) (all : length D.items ≤ t)
    (found : ℕ → Option Jump) (reads : ℕ → ℕ → ℤ) (written : AllWritten found reads L)
    (place : ℕ → Option ℕ) (tied : (l q : ℕ) → Resolves T l q ↔ (place l ≡ Some q)) (τ : Truth) where
  abbrev SameFrom : Position → ℕ → Type 0
  SameFrom p q = Agrees (draft_step D τ) (code_step D place found τ) p q

  abbrev TargetAgrees : ℕ → ℕ → ℕ → Type 0
  TargetAgrees q c l = (target : ℕ) × (reads c q ≡ sub_ℕ target q) × SameFrom (to l) target

  heads : (p : Position) (q : ℕ) → Heads D τ L (at t) any p q → SameFrom p q
  heads = agrees_at D L T t f grows all found reads written place tied τ any

  -- from the end of a cell that means the item i
  past_item : (i j q k n z : ℕ) (p : Position) → n ≡ q → z ≡ k → p ≡ at i → p ≡ at j → Heads D τ L (at t) any (at (suc j)) (n + z) → SameFrom (at (suc i)) (q + k)
  past_item i j q k n z p hn hz hi hj a =
      let same : j ≡ i = cc in
      let end : n + z ≡ q + k = cc in
      heads (at (suc i)) (q + k)
      (subst (λ (y : ℕ). Heads D τ L (at t) any (at (suc i)) y) end (subst (λ (y : ℕ). Heads D τ L (at t) any (at (suc y)) (n + z)) same a))

  past_piece : (i q k : ℕ) (b : Body) (p : Position) (r n z : ℕ) → n ≡ q → z ≡ k → p ≡ at i → Plain b → Does D τ L (at t) b p r n z → SameFrom (at (suc i)) (q + k)
  past_piece i q k bytes p r n z hn hz hp is a = past_item i a.0 q k n z p hn hz hp a.1 a.3
  past_piece i q k (refers d m x) p r n z hn hz hp is a = absurd is
  past_piece i q k (jump ρ x) p r n z hn hz hp is a = absurd is
  past_piece i q k (veneer d x) p r n z hn hz hp is a = absurd is
  past_piece i q k (kept m) p r n z hn hz hp is a = absurd is
  past_piece i q k blank p r n z hn hz hp is a = absurd is

  -- from the end of a piece with a use, and from the target that its bytes read
  past_use : (i q k c l : ℕ) (b : Body) (p : Position) (r n z : ℕ) → n ≡ q → z ≡ k → p ≡ at i → Using c l b → Does D τ L (at t) b p r n z → Written found reads b n z
      → SameFrom (at (suc i)) (q + k) × TargetAgrees q c l
  past_use i q k c l bytes p r n z hn hz hp is a w = absurd is
  past_use i q k c l (refers d m (waits x)) p r n z hn hz hp is a w = absurd w
  past_use i q k c l (refers d m (fixed x)) p r n z hn hz hp is a w =
      let kind = is.0 in
      let read : reads c q ≡ sub_ℕ x q = sym (ap (reads c) hn) ∙ sym (ap (λ y. reads y n) kind) ∙ w ∙ ap (sub_ℕ x) hn in (
        past_item i a.0 q k n z p hn hz hp a.1 a.3,
        (x, read, heads (to l) x (subst (λ (y : ℕ). Heads D τ L (at t) any (to y) x) is.1 a.4)),
      )
  past_use i q k c l (jump ρ x) p r n z hn hz hp is a w = absurd is
  past_use i q k c l (veneer d x) p r n z hn hz hp is a w = absurd is
  past_use i q k c l (kept m) p r n z hn hz hp is a w = absurd is
  past_use i q k c l blank p r n z hn hz hp is a w = absurd is

  from_piece : (i q k : ℕ) → Held i (piece q k) L → SameFrom (at (suc i)) (q + k)
  from_piece i q k cell-of =
      some_each (Home Plain i q k) (Whole D L T t f grows all found reads written place tied τ) L
      (λ c n h a. past_piece i q k c.body c.means c.rank n c.size h.0 h.1 h.2 h.3 a.sound.does) cell-of
      (whole D L T t f grows all found reads written place tied τ)

  from_use : (i q k c l : ℕ) → Held i (use_of q k c l) L → SameFrom (at (suc i)) (q + k) × TargetAgrees q c l
  from_use i q k c l cell-of =
      some_each (Home (Using c l) i q k) (Whole D L T t f grows all found reads written place tied τ) L
      (λ x n h a. past_use i q k c l x.body x.means x.rank n x.size h.0 h.1 h.2 h.3 a.sound.does a.wrote) cell-of
      (whole D L T t f grows all found reads written place tied τ)

  -- a label that has no place does not resolve
  unplaced : ((l : ℕ) → is_kept D l ≡ true → T l ≡ free → ⊥) → (l : ℕ) → place l ≡ None → Settles T l → RunsOff (draft_step D τ) (to l)
  unplaced complete l h (inl a) = let p = (tied l a.0).0 a.1 in apart (cc)
  unplaced complete l h (inr d) = dangles_nowhere D L T t f grows all complete τ d

pub layouts_agree : LayoutsAgree
layouts_agree D L T t f grows all complete found reads written place tied τ =
    let F = grown_follows τ grows in
    let agrees = agrees_at D L T t f grows all found reads written place tied τ in
    let cell-of = held D L T t f grows all in
    let of-use = from_use D L T t f grows all found reads written place tied τ in
    record {
      from_beginning = agrees any (at 0) 0 F.start;
      from_label = λ l q p. agrees (below 1) (to l) q (resolves_heads D τ L (at t) T F.labels ((tied l q).1 p));
      from_unplaced = λ l h. unplaced D L T t f grows all found reads written place tied τ complete l h (grown_settles grows l);
      from_piece = λ n q k h. from_piece D L T t f grows all found reads written place tied τ n q k (cell-of n (piece q k) h (λ z. apart (cc)));
      from_user = λ n q k c l h. (of-use n q k c l (cell-of n (use_of q k c l) h (λ z. apart (cc)))).0;
      from_use = λ n q k c l h. (of-use n q k c l (cell-of n (use_of q k c l) h (λ z. apart (cc)))).1;
    }
