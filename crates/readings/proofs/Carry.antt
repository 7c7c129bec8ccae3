-- What is known of offsets in one layout, carried over to the next; and with it what is known of cells and labels.
use Rattle.std.proofs.Common.{◌≡◌, ℕ, suc, ◌+◌, List, ◌∷◌, ◌∙◌, subst, inl, inr, true≢false}
use Rattle.isa.specs.declared.jumps.Role.TheVariants.{Unconditional, Conditional}
use Rattle.readings.specs.Walk.{Step, RunsOff}
use Rattle.readings.specs.Draft.{Truth, Draft, Position, at, to, Destination, draft_step}
use Rattle.readings.specs.Layout.{Target, waits, fixed, Body, bytes, refers, jump, veneer, kept, blank, Cell, cell, total, Each, Entry, free, stands, alias, Labels, Resolves, found, through, Patches}
use Rattle.readings.proofs.Ways.{Pace, any, moving, below, Way, runs, first_any, then_level, runs_off}
use Rattle.readings.proofs.Cells.{Solid, each_map, each_both, means_map, patch_total, patch_begins}
use Rattle.readings.proofs.Targets.{TargetIn, BodyIn, CellIn, Anywhere, body_anywhere}
use Rattle.readings.proofs.Follows.{Heads, Aims, Does, Sound, Tells, Follows}

module _ (D : Draft) (τ : Truth) where
  abbrev pub step : Position → Step Position Destination
  step = draft_step D τ

  -- from a layout L that ends in e to a layout M that ends in f, at the offsets of S
  abbrev pub Carry : List Cell → Position → List Cell → Position → (ℕ → Type 0) → Type 0
  Carry L e M f S = (m : Pace) (p : Position) (q : ℕ) → S q → Heads D τ L e m p q → Heads D τ M f m p q

  pub solids : (L M : List Cell) (e : Position) → Each (Sound D τ M e) L → Each Solid L
  solids L M e a = each_map (Sound D τ M e) Solid (λ c q s. s.solid) L a

  module _ (L : List Cell) (e : Position) (M : List Cell) (f : Position) (S : ℕ → Type 0) (carry : Carry L e M f S) where
    aims_carry : (m : Pace) (p : Position) (x : Target) → TargetIn S x → Aims D τ L e m p x → Aims D τ M f m p x
    aims_carry m p (waits l) s a = a
    aims_carry m p (fixed q) s a = carry m p q s a

    does_carry : (b : Body) (p : Position) (r q k : ℕ) → BodyIn S b (q + k) → Does D τ L e b p r q k → Does D τ M f b p r q k
    does_carry bytes p r q k s a = (a.0, a.1, a.2, carry any (at (suc a.0)) (q + k) s a.3)
    does_carry (refers c l x) p r q k s a = (a.0, a.1, a.2, carry any (at (suc a.0)) (q + k) s.0 a.3, aims_carry any (to l) x s.1 a.4)
    does_carry (jump Unconditional x) p r q k s a = (λ h. aims_carry moving p x s (a.0 h), λ h. absurd (true≢false h))
    does_carry (jump (Conditional c t) x) p r q k s a = (λ h. aims_carry moving p x s.1 (a.0 h), λ h. carry moving p (q + k) s.0 (a.1 h))
    does_carry (veneer c x) p r q k s a = aims_carry (below r) p x s a
    does_carry (kept l) p r q k s a = a
    does_carry blank p r q k s a = a

    pub sound_carry : (c : Cell) (q : ℕ) → CellIn S c q → Sound D τ L e c q → Sound D τ M f c q
    sound_carry c q s a = record { solid = a.solid; does = does_carry c.body c.means c.rank q c.size s a.does }

    pub cells_carry : (K : List Cell) → Each (CellIn S) K → Each (Sound D τ L e) K → Each (Sound D τ M f) K
    cells_carry K s a = each_both (CellIn S) (Sound D τ L e) (Sound D τ M f) sound_carry K s a

  module _ (L : List Cell) (e : Position) (M : List Cell) (f : Position) (carry : Carry L e M f Anywhere) where
    pub all_cells_carry : (K : List Cell) → Each (Sound D τ L e) K → Each (Sound D τ M f) K
    all_cells_carry K a = each_map (Sound D τ L e) (Sound D τ M f) (λ c q s. sound_carry L e M f Anywhere carry c q (body_anywhere c.body (q + c.size)) s) K a

    tells_carry : (l : ℕ) (t : Entry) → Tells D τ L e l t → Tells D τ M f l t
    tells_carry l free a = a
    tells_carry l (stands q) a = carry (below 1) (to l) q tt a
    tells_carry l (alias m) a = a

    -- the new layout goes on following, if its cells do
    pub follows_carry : (T : Labels) → Each (Sound D τ M f) M → Follows D τ L T e → Follows D τ M T f
    follows_carry T cells F = record {
      start = carry any (at 0) 0 tt F.start;
      cells = cells;
      labels = λ l. tells_carry l (T l) (F.labels l);
    }

  -- a new cell means what the end meant; the new end may mean anything
  pub carry_push : (L : List Cell) (e f : Position) (k : ℕ) (b : Body) → Carry L e (cell k e 0 b ∷ L) f Anywhere
  carry_push L e f k b m p q s (inl x) = inl (inr x)
  carry_push L e f k b m p q s (inr x) = inl (inl x)

  -- the end means what it led to
  pub carry_end : (L : List Cell) (e f : Position) → Way step (below 1) e f 0 → Carry L e L f Anywhere
  carry_end L e f w m p q s (inl x) = inl x
  carry_end L e f w m p q s (inr x) = inr (x.0, then_level step x.1 w)

  -- a new cell means anything where the end ran off
  pub carry_lost : (L : List Cell) (e f : Position) (c : Cell) → RunsOff step e → Carry L e (c ∷ L) f Anywhere
  carry_lost L e f c o m p q s (inl x) = inl (inr x)
  carry_lost L e f c o m p q s (inr x) = inl (inl (x.0, runs (runs_off step x.1 o)))

  -- the newest cell is cut, and it led to the end
  pub carry_cut : (c : Cell) (L : List Cell) (e f : Position) → Way step (below (suc c.rank)) c.means f 0 → Carry (c ∷ L) e L f (λ q. q ≡ total L + c.size → ⊥)
  carry_cut c L e f w m p q s (inl (inl x)) = inr (x.0, then_level step x.1 w)
  carry_cut c L e f w m p q s (inl (inr x)) = inl x
  carry_cut c L e f w m p q s (inr x) = absurd (s x.0)

  -- the newest cell is cut, and nothing speaks of its beginning or its end
  pub carry_drop : (c : Cell) (L : List Cell) (e f : Position) → Carry (c ∷ L) e L f (λ q. (q ≡ total L → ⊥) × (q ≡ total L + c.size → ⊥))
  carry_drop c L e f m p q s (inl (inl x)) = absurd (s.0 x.0)
  carry_drop c L e f m p q s (inl (inr x)) = inl x
  carry_drop c L e f m p q s (inr x) = absurd (s.1 x.0)

  pub carry_patch : (b l n : ℕ) (L M : List Cell) (e : Position) → Patches b l n L M → Carry L e M e Anywhere
  carry_patch b l n L M e w m p q s (inl x) = inl (patch_begins (Way step m p) q w x)
  carry_patch b l n L M e w m p q s (inr x) = inr (x.0 ∙ patch_total w, x.1)

  heads_after : {m : Pace} (L : List Cell) (e : Position) (p t : Position) (r q : ℕ) → Way step any p t r → Heads D τ L e m t q → Heads D τ L e m p q
  heads_after {m} L e p t r q w a = means_map (Way step m t) (Way step m p) (λ x s v. first_any step w v) L e q a

  -- what a label resolves to
  pub resolves_heads : (L : List Cell) (e : Position) (T : Labels) → ((l : ℕ) → Tells D τ L e l (T l)) → {l q : ℕ} → Resolves T l q → Heads D τ L e (below 1) (to l) q
  resolves_heads L e T a {l} {q} (found h) = subst (λ (t : Entry). Tells D τ L e l t) h (a l)
  resolves_heads L e T a {l} {q} (through {m = m} h w) =
      let v = subst (λ (t : Entry). Tells D τ L e l t) h (a l) in
      heads_after {m = below 1} L e (to l) (to m) 0 q v (resolves_heads L e T a w)
