-- Islands: padding, veneers, traps and constants at an end that runs off, and the patching of waiting uses.
use Rattle.std.proofs.Common.{◌≡◌, ℕ, suc, ◌+◌, ◌<◌, ◌≤◌, true, ◌⊎◌, List, ◌∷◌, sym, refl, subst, inl, inr, arith}
use Rattle.readings.specs.Walk.{RunsOff}
use Rattle.readings.specs.Draft.{Truth, Draft, is_kept, Position, at, to}
use Rattle.readings.specs.Layout.{waits, Body, veneer, kept, blank, Cell, cell, total, Each, Begins, Entry, Labels, Resolves, Places, Fixes, in_piece, in_branch, in_veneer, Patches, patch_here, patch_there}
use Rattle.readings.proofs.Simulation.{Reaches, stays}
use Rattle.readings.proofs.Ways.{Pace, any, moving, below, Way, runs, comes, level, then_level}
use Rattle.readings.proofs.Cells.{begins_map, means_map, patch_total}
use Rattle.readings.proofs.Targets.{body_anywhere}
use Rattle.readings.proofs.Follows.{Heads, Does, Sound, Tells, Follows}
use Rattle.readings.proofs.Carry.{step, Carry, all_cells_carry, follows_carry, sound_carry, carry_lost, carry_patch, resolves_heads}

module _ (D : Draft) (τ : Truth) where
  -- at an end that runs off, a new cell means anything, and the new end runs off again
  lays : (L : List Cell) (T : Labels) (e : Position) (c : Cell) → RunsOff (step D τ) e → Sound D τ (c ∷ L) e c (total L) → Follows D τ L T e → Follows D τ (c ∷ L) T e
  lays L T e c o sound F =
      let carry = carry_lost D τ L e e c o in
      follows_carry D τ L e (c ∷ L) e carry T (sound, all_cells_carry D τ L e (c ∷ L) e carry L F.cells) F

  pub pads : (L : List Cell) (T : Labels) (e : Position) (k : ℕ) → RunsOff (step D τ) e → 1 ≤ k → Follows D τ L T e → Follows D τ (cell k e 0 blank ∷ L) T e
  pads L T e k o h F = lays L T e (cell k e 0 blank) o (record { solid = h; does = o }) F

  pub lays_veneer : (L : List Cell) (T : Labels) (e : Position) (k c r l : ℕ) → RunsOff (step D τ) e → 1 ≤ k → Follows D τ L T e → Follows D τ (cell k (to l) (suc r) (veneer c (waits l)) ∷ L) T e
  lays_veneer L T e k c r l o h F = lays L T e (cell k (to l) (suc r) (veneer c (waits l))) o (record { solid = h; does = comes 0 (inr (omega arith)) stays }) F

  -- a trap or constant, and its label with it
  pub lays_kept : (L : List Cell) (T U : Labels) (e : Position) (k l : ℕ) → RunsOff (step D τ) e → 1 ≤ k → is_kept D l ≡ true → Places T U l (total L) → Follows D τ L T e → Follows D τ (cell k (to l) 0 (kept l) ∷ L) U e
  lays_kept L T U e k l o h held places F = record { start = G.start; cells = G.cells; labels = λ m. go m (places.1 m) }
    where
      G : Follows D τ (cell k (to l) 0 (kept l) ∷ L) T e
      G = lays L T e (cell k (to l) 0 (kept l)) o (record { solid = h; does = (refl, held) }) F

      go : (m : ℕ) → ((m ≡ l) ⊎ (U m ≡ T m)) → Tells D τ (cell k (to l) 0 (kept l) ∷ L) e m (U m)
      go m (inr x) = subst (λ (t : Entry). Tells D τ (cell k (to l) 0 (kept l) ∷ L) e m t) (sym x) (G.labels m)
      go m (inl x) =
          let here : Tells D τ (cell k (to l) 0 (kept l) ∷ L) e l (U l) =
          subst (λ (t : Entry). Tells D τ (cell k (to l) 0 (kept l) ∷ L) e l t) (sym places.0) (inl (inl (refl, level (step D τ)))) in
          subst (λ (i : ℕ). Tells D τ (cell k (to l) 0 (kept l) ∷ L) e i (U i)) (sym x) here

  -- a pace at which a veneer of rank b may be entered
  abbrev Room : ℕ → Pace → Type 0
  Room b any = Unit {0}
  Room b moving = Unit {0}
  Room b (below r) = b < r

  module _ (b l n : ℕ) (L : List Cell) (e : Position) (M : List Cell) (carry : Carry D τ L e M e (λ q. Unit {0}))
      (hits : (m : Pace) (p : Position) → Room b m → Way (step D τ) m p (to l) 0 → Heads D τ M e m p n) where
    does_fixed : {r : ℕ} {x y : Body} (p : Position) (q k : ℕ) → Fixes b l n r x y → Does D τ L e x p r q k → Does D τ M e y p r q k
    does_fixed p q k (in_piece {m = m}) a = (a.0, a.1, a.2, carry any (at (suc a.0)) (q + k) tt a.3, hits any (to m) tt a.4)
    does_fixed p q k in_branch a = (λ j. hits moving p tt (a.0 j), λ j. carry moving p (q + k) tt (a.1 j))
    does_fixed p q k (in_veneer {r = r} h) a = hits (below r) p h a

    cells_fixed : {K N : List Cell} → Patches b l n K N → Each (Sound D τ L e) K → Each (Sound D τ M e) N
    cells_fixed (patch_here {k} {r} {p} {x} {y} {L = K} f) a = (
      record { solid = a.0.solid; does = does_fixed p (total K) k f a.0.does },
      all_cells_carry D τ L e M e carry K a.1,
    )
    cells_fixed (patch_there {c} {L = K} {M = N} w) a = (
      subst (λ (i : ℕ). Sound D τ M e c i) (patch_total w)
          (sound_carry D τ L e M e (λ q. Unit {0}) carry c (total K) (body_anywhere c.body (total K + c.size)) a.0),
      cells_fixed w a.1,
    )

  patches : (b l n : ℕ) (L M : List Cell) (T : Labels) (e : Position) → Patches b l n L M
      → ((m : Pace) (p : Position) → Room b m → Way (step D τ) m p (to l) 0 → Heads D τ L e m p n)
      → Follows D τ L T e → Follows D τ M T e
  patches b l n L M T e w hits F =
      let carry = carry_patch D τ b l n L M e w in
      follows_carry D τ L e M e carry T (cells_fixed b l n L e M carry (λ m p room v. carry m p n tt (hits m p room v)) w F.cells) F

  -- a waiting use is patched to where its label stands
  pub patches_placed : (b l n : ℕ) (L M : List Cell) (T : Labels) (e : Position) → Patches b l n L M → Resolves T l n → Follows D τ L T e → Follows D τ M T e
  patches_placed b l n L M T e w res F =
      patches b l n L M T e w
      (λ m p room v. means_map (Way (step D τ) (below 1) (to l)) (Way (step D τ) m p) (λ x s u. then_level (step D τ) v u) L e n
      (resolves_heads D τ L e T F.labels res)) F

  enters_veneer : (b l : ℕ) (m : Pace) (p x : Position) (r : ℕ) → Room b m → x ≡ to l → r ≤ b → Way (step D τ) m p (to l) 0 → Way (step D τ) m p x r
  enters_veneer b l m p x r room h k (runs o) = runs o
  enters_veneer b l any p x r room h k (comes n a w) = comes n tt (subst (λ (z : Position). Reaches (step D τ) n p z) (sym h) w)
  enters_veneer b l moving p x r room h k (comes n a w) = comes n a (subst (λ (z : Position). Reaches (step D τ) n p z) (sym h) w)
  enters_veneer b l (below c) p x r room h k (comes n a w) = comes n (inr (omega arith)) (subst (λ (z : Position). Reaches (step D τ) n p z) (sym h) w)

  -- or to a veneer for it, of a rank up to b, below that of the patched one if that is a veneer
  pub patches_veneer : (b l n : ℕ) (L M : List Cell) (T : Labels) (e : Position) → Patches b l n L M
      → Begins L n (λ p r. (p ≡ to l) × (r ≤ b)) → Follows D τ L T e → Follows D τ M T e
  patches_veneer b l n L M T e w stand F =
      patches b l n L M T e w
      (λ m p room v. inl (begins_map (λ x r. (x ≡ to l) × (r ≤ b)) (Way (step D τ) m p)
      (λ x r a. enters_veneer b l m p x r room a.0 a.1 v) L n stand)) F
