-- The calls that add to the draft: the layout goes on following it.
use Rattle.std.proofs.Common.{◌≡◌, ℕ, suc, ◌≤◌, Bool, true, false, cond, ◌⊎◌, List, ◌∷◌, sym, refl, ap, ◌∙◌, subst, inl, inr}
use Rattle.isa.specs.declared.jumps.Role.{Role}
use Rattle.readings.specs.Walk.{Step, stop, on, RunsOff}
use Rattle.readings.specs.Draft.{Truth, jumps, Draft, item, is_kept, piece, use_of, label, branch, gap, Position, at, to, Destination, the_kept, placed, placing, enter, pieces_among, pass}
use Rattle.readings.specs.Layout.{waits, Body, bytes, refers, jump, blank, Cell, cell, total, Entry, Labels, Places}
use Rattle.readings.proofs.Ways.{below, Way, runs, idle, one, no_step}
use Rattle.readings.proofs.Follows.{Does, Tells, Follows}
use Rattle.readings.proofs.Carry.{step, all_cells_carry, follows_carry, carry_push, carry_end}

module _ (D : Draft) (τ : Truth) where
  passes_label : (t l : ℕ) → item D t ≡ label l → step D τ (at t) ≡ on (at (suc t))
  passes_label t l h = ap (pass τ t (pieces_among t D.items)) h

  pub gap_nowhere : (t : ℕ) → item D t ≡ gap → RunsOff (step D τ) (at t)
  gap_nowhere t h = no_step (step D τ) (ap (pass τ t (pieces_among t D.items)) h)

  enters : (t l : ℕ) → is_kept D l ≡ false → placing D.items l ≡ placed t → step D τ (to l) ≡ on (at t)
  enters t l h k =
      let K : Bool → Step Position Destination = λ b. cond b (stop (the_kept l)) (enter (placing D.items l)) in
      ap K h ∙ ap enter k

  takes : (t l : ℕ) (ρ : Role) → item D t ≡ branch l ρ → jumps τ ρ ≡ true → step D τ (at t) ≡ on (to l)
  takes t l ρ h j =
      let K : Bool → Step Position Destination = λ b. on (cond b (to l) (at (suc t))) in
      ap (pass τ t (pieces_among t D.items)) h ∙ ap K j

  falls : (t l : ℕ) (ρ : Role) → item D t ≡ branch l ρ → jumps τ ρ ≡ false → step D τ (at t) ≡ on (at (suc t))
  falls t l ρ h j =
      let K : Bool → Step Position Destination = λ b. on (cond b (to l) (at (suc t))) in
      ap (pass τ t (pieces_among t D.items)) h ∙ ap K j

  -- the end of the code means what it led to
  moves_on : (L : List Cell) (T : Labels) (e f : Position) → Way (step D τ) (below 1) e f 0 → Follows D τ L T e → Follows D τ L T f
  moves_on L T e f w F =
      let carry = carry_end D τ L e f w in
      follows_carry D τ L e L f carry T (all_cells_carry D τ L e L f carry L F.cells) F

  -- a label is placed at the end
  placed_at_end : (L : List Cell) (T U : Labels) (e : Position) (l : ℕ) → Places T U l (total L) → Way (step D τ) (below 1) (to l) e 0 → Follows D τ L T e → Follows D τ L U e
  placed_at_end L T U e l places w F = record { start = F.start; cells = F.cells; labels = λ m. go m (places.1 m) }
    where
      go : (m : ℕ) → ((m ≡ l) ⊎ (U m ≡ T m)) → Tells D τ L e m (U m)
      go m (inr h) = subst (λ (t : Entry). Tells D τ L e m t) (sym h) (F.labels m)
      go m (inl h) =
          let here : Tells D τ L e l (U l) = subst (λ (t : Entry). Tells D τ L e l t) (sym places.0) (inr (refl, w)) in
          subst (λ (k : ℕ). Tells D τ L e k (U k)) (sym h) here

  pub binds : (L : List Cell) (T U : Labels) (t l : ℕ) → item D t ≡ label l → is_kept D l ≡ false → placing D.items l ≡ placed t → Places T U l (total L) → Follows D τ L T (at t) → Follows D τ L U (at (suc t))
  binds L T U t l h ours k sets F =
      let w : Way (step D τ) (below 1) (at t) (at (suc t)) 0 = one (step D τ) (passes_label t l h) in
      moves_on L U (at t) (at (suc t)) w (placed_at_end L T U (at t) l sets (one (step D τ) (enters t l ours k)) F)

  -- a new cell means what the end meant
  pushes : (L : List Cell) (T : Labels) (e f : Position) (k : ℕ) (b : Body) → 1 ≤ k → Does D τ (cell k e 0 b ∷ L) f b e 0 (total L) k → Follows D τ L T e → Follows D τ (cell k e 0 b ∷ L) T f
  pushes L T e f k b h does F =
      let carry = carry_push D τ L e f k b in
      follows_carry D τ L e (cell k e 0 b ∷ L) f carry T (record { solid = h; does = does }, all_cells_carry D τ L e (cell k e 0 b ∷ L) f carry L F.cells) F

  pub puts : (L : List Cell) (T : Labels) (t k : ℕ) → item D t ≡ piece (total L) k → 1 ≤ k → Follows D τ L T (at t) → Follows D τ (cell k (at t) 0 bytes ∷ L) T (at (suc t))
  puts L T t k h size F = pushes L T (at t) (at (suc t)) k bytes size (t, refl, h, inr (refl, idle (step D τ))) F

  pub uses : (L : List Cell) (T : Labels) (t k c l : ℕ) → item D t ≡ use_of (total L) k c l → 1 ≤ k → Follows D τ L T (at t) → Follows D τ (cell k (at t) 0 (refers c l (waits l)) ∷ L) T (at (suc t))
  uses L T t k c l h size F = pushes L T (at t) (at (suc t)) k (refers c l (waits l)) size (t, refl, h, inr (refl, idle (step D τ)), idle (step D τ)) F

  pub branches : (L : List Cell) (T : Labels) (t k l : ℕ) (ρ : Role) → item D t ≡ branch l ρ → 1 ≤ k → Follows D τ L T (at t) → Follows D τ (cell k (at t) 0 (jump ρ (waits l)) ∷ L) T (at (suc t))
  branches L T t k l ρ h size F =
      pushes L T (at t) (at (suc t)) k (jump ρ (waits l)) size
      (λ j. one (step D τ) (takes t l ρ h j), λ j. inr (refl, one (step D τ) (falls t l ρ h j))) F

  pub aligns : (L : List Cell) (T : Labels) (t k : ℕ) → item D t ≡ gap → 1 ≤ k → Follows D τ L T (at t) → Follows D τ (cell k (at t) 0 blank ∷ L) T (at (suc t))
  aligns L T t k h size F = pushes L T (at t) (at (suc t)) k blank size (gap_nowhere t h) F

  -- an alignment that adds no byte; and the end of an island
  pub leaves_gap : (L : List Cell) (T : Labels) (t : ℕ) → item D t ≡ gap → Follows D τ L T (at t) → Follows D τ L T (at (suc t))
  leaves_gap L T t h F = moves_on L T (at t) (at (suc t)) (runs (gap_nowhere t h)) F
