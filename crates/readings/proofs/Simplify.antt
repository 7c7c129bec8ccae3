-- The rules that make branches fewer: the layout goes on following the draft.
use Rattle.std.proofs.Common.{◌≡◌, ℕ, suc, ◌+◌, ◌≤◌, Bool, true, false, not, ◌⊎◌, List, ◌∷◌, sym, refl, ap, ◌∙◌, subst, inl, inr, true≢false, arith}
use mathlib.Core.Bool.{beq, false≢true}
use Rattle.isa.specs.declared.jumps.Condition.{Condition}
use Rattle.isa.specs.declared.jumps.Role.{Role}
use Rattle.isa.specs.declared.jumps.Role.TheVariants.{Unconditional, Conditional}
use Rattle.readings.specs.Draft.{Truth, jumps, Draft, Position, at, to}
use Rattle.readings.specs.Layout.{waits, jump, Cell, cell, total, Each, Entry, free, stands, alias, Labels, Resolves, Shifts, Renames, Bare}
use Rattle.readings.proofs.Ways.{any, moving, below, Way, first_any, then_level, as_any, from_moving}
use Rattle.readings.proofs.Cells.{Solid, at_end, at_newest}
use Rattle.readings.proofs.Targets.{AllFixedWithin, cells_in}
use Rattle.readings.proofs.Follows.{Tells, Follows}
use Rattle.readings.proofs.Carry.{step, Carry, solids, cells_carry, sound_carry, carry_cut, carry_drop, resolves_heads}

-- a role and its inverse
unturned : (t s : Bool) → beq t (not s) ≡ true → beq t s ≡ false
unturned true true h = absurd (false≢true h)
unturned true false h = refl
unturned false true h = refl
unturned false false h = absurd (false≢true h)

turned : (t s : Bool) → beq t (not s) ≡ false → beq t s ≡ true
turned true true h = refl
turned true false h = absurd (true≢false h)
turned false true h = absurd (true≢false h)
turned false false h = refl

module _ (D : Draft) (τ : Truth) where
  abbrev EntryIn : (ℕ → Type 0) → Entry → Type 0
  EntryIn S free = Unit {0}
  EntryIn S (stands q) = S q
  EntryIn S (alias m) = Unit {0}

  module _ (L : List Cell) (e : Position) (M : List Cell) (f : Position) (S : ℕ → Type 0) (carry : Carry D τ L e M f S) where
    tells_in : (l : ℕ) (t : Entry) → EntryIn S t → Tells D τ L e l t → Tells D τ M f l t
    tells_in l free s a = a
    tells_in l (stands q) s a = carry (below 1) (to l) q s a
    tells_in l (alias m) s a = a

  entry_in : (S : ℕ → Type 0) (t u : Entry) → ((q : ℕ) → t ≡ stands q → S q) → t ≡ u → EntryIn S u
  entry_in S t free f h = tt
  entry_in S t (stands q) f h = f q h
  entry_in S t (alias m) f h = tt

  -- the labels at the end of what is cut go to its beginning
  labels_cut : (c : Cell) (L M : List Cell) (e : Position) (T U : Labels) (S : ℕ → Type 0)
      → Carry D τ (c ∷ L) e M e S → Each Solid (c ∷ L) → total M ≡ total L
      → Shifts T U (total (c ∷ L)) (total L)
      → ((m q : ℕ) → T m ≡ stands q → (q ≡ total L + c.size → ⊥) → S q)
      → ((m : ℕ) → Tells D τ (c ∷ L) e m (T m)) → (m : ℕ) → Tells D τ M e m (U m)
  labels_cut c L M e T U S carry solid same shifts ok tells m = go (shifts m)
    where
      go : (((U m ≡ T m) × (T m ≡ stands (total (c ∷ L)) → ⊥)) ⊎ ((T m ≡ stands (total (c ∷ L))) × (U m ≡ stands (total L)))) → Tells D τ M e m (U m)
      go (inl h) =
          let stay : (q : ℕ) → T m ≡ stands q → S q = λ q k. ok m q k (λ z. h.1 (k ∙ ap stands z)) in
          subst (λ (t : Entry). Tells D τ M e m t) (sym h.0)
          (tells_in (c ∷ L) e M e S carry m (T m) (entry_in S (T m) (T m) stay refl) (tells m))
      go (inr h) =
          let a = subst (λ (t : Entry). Tells D τ (c ∷ L) e m t) h.0 (tells m) in
          let w = at_end (Way (step D τ) (below 1) (to m)) (c ∷ L) e (total (c ∷ L)) refl solid a in
          subst (λ (t : Entry). Tells D τ M e m t) (sym h.1) (inr (sym same, w))

  -- a branch whose target is its own end leads there
  to_its_end : (L : List Cell) (T : Labels) (e p : Position) (k r l : ℕ) (ρ : Role)
      → Resolves T l (total L + k) → Follows D τ (cell k p r (jump ρ (waits l)) ∷ L) T e → Way (step D τ) moving p e 0
  to_its_end L T e p k r l ρ res F = go (jumps τ ρ) refl
    where
      solid : Each Solid (cell k p r (jump ρ (waits l)) ∷ L)
      solid = solids D τ (cell k p r (jump ρ (waits l)) ∷ L) (cell k p r (jump ρ (waits l)) ∷ L) e F.cells

      go : (b : Bool) → jumps τ ρ ≡ b → Way (step D τ) moving p e 0
      go true j =
          let v = resolves_heads D τ (cell k p r (jump ρ (waits l)) ∷ L) e T F.labels res in
          then_level (step D τ) (F.cells.0.does.0 j)
          (at_end (Way (step D τ) (below 1) (to l)) (cell k p r (jump ρ (waits l)) ∷ L) e (total L + k) refl solid v)
      go false j =
          at_end (Way (step D τ) moving p) (cell k p r (jump ρ (waits l)) ∷ L) e (total L + k) refl solid (F.cells.0.does.1 j)

  -- a branch to its own end is cut
  pub cuts_to_end : (L : List Cell) (T U : Labels) (e p : Position) (k r l : ℕ) (ρ : Role)
      → Resolves T l (total L + k)
      → AllFixedWithin (total L) L
      → Shifts T U (total L + k) (total L)
      → Follows D τ (cell k p r (jump ρ (waits l)) ∷ L) T e → Follows D τ L U e
  cuts_to_end L T U e p k r l ρ res within shifts F =
      let c = cell k p r (jump ρ (waits l)) in
      let w : Way (step D τ) (below (suc r)) p e 0 = from_moving (step D τ) (to_its_end L T e p k r l ρ res F) in
      let carry = carry_cut D τ c L e e w in
      let size : 1 ≤ k = F.cells.0.solid in
      record {
        start = carry any (at 0) 0 (λ z. omega arith) F.start;
        cells = cells_carry D τ (c ∷ L) e L e (λ q. q ≤ total L)
            (λ m p q s a. carry m p q (λ z. omega arith) a) L
            (cells_in (total L) L (omega arith) within) F.cells.1;
        labels = labels_cut c L L e T U (λ q. q ≡ total L + k → ⊥) carry (solids D τ (c ∷ L) (c ∷ L) e F.cells) refl shifts
            (λ m q h off. off) F.labels;
      }

  -- labels where an unconditional branch begins become aliases of its target
  pub renames : (L : List Cell) (T U : Labels) (e p : Position) (k r l : ℕ)
      → Renames T U (total L) l
      → Follows D τ (cell k p r (jump Unconditional (waits l)) ∷ L) T e → Follows D τ (cell k p r (jump Unconditional (waits l)) ∷ L) U e
  renames L T U e p k r l names F = record { start = F.start; cells = F.cells; labels = λ m. go m (names m) }
    where
      go : (m : ℕ) → ((U m ≡ T m) ⊎ ((T m ≡ stands (total L)) × (U m ≡ alias l))) → Tells D τ (cell k p r (jump Unconditional (waits l)) ∷ L) e m (U m)
      go m (inl h) = subst (λ (t : Entry). Tells D τ (cell k p r (jump Unconditional (waits l)) ∷ L) e m t) (sym h) (F.labels m)
      go m (inr h) =
          let c = cell k p r (jump Unconditional (waits l)) in
          let a = subst (λ (t : Entry). Tells D τ (c ∷ L) e m t) h.0 (F.labels m) in
          let w = at_newest (Way (step D τ) (below 1) (to m)) c L e (solids D τ (c ∷ L) (c ∷ L) e F.cells) a in
          let v : Way (step D τ) any (to m) (to l) 0 = first_any (step D τ) (as_any (step D τ) {s = 0} w) (as_any (step D τ) (F.cells.0.does.0 refl)) in
          subst (λ (t : Entry). Tells D τ (c ∷ L) e m t) (sym h.1) v

  -- what stands behind an unconditional branch, and has no label, is cut
  pub cuts_behind : (c : Cell) (L : List Cell) (T U : Labels) (e p : Position) (k r l : ℕ)
      → Bare T (total L + k)
      → AllFixedWithin (total L) L
      → Shifts T U (total L + k + c.size) (total L + k)
      → Follows D τ (c ∷ cell k p r (jump Unconditional (waits l)) ∷ L) T e → Follows D τ (cell k p r (jump Unconditional (waits l)) ∷ L) U e
  cuts_behind c L T U e p k r l bare within shifts F =
      let b = cell k p r (jump Unconditional (waits l)) in
      let carry = carry_drop D τ c (b ∷ L) e e in
      let size : 1 ≤ k = F.cells.1.0.solid in
      let carried : Carry D τ (c ∷ b ∷ L) e (b ∷ L) e (λ q. q ≤ total L) = λ m p q s a. carry m p q (λ z. omega arith, λ z. omega arith) a in
      record {
        start = carried any (at 0) 0 (omega arith) F.start;
        cells = (
          sound_carry D τ (c ∷ b ∷ L) e (b ∷ L) e (λ q. q ≤ total L) carried b (total L) tt F.cells.1.0,
          cells_carry D τ (c ∷ b ∷ L) e (b ∷ L) e (λ q. q ≤ total L) carried L
              (cells_in (total L) L (omega arith) within) F.cells.1.1,
        );
        labels = labels_cut c (b ∷ L) (b ∷ L) e T U (λ q. (q ≡ total L + k → ⊥) × (q ≡ total L + k + c.size → ⊥)) carry (solids D τ (c ∷ b ∷ L) (c ∷ b ∷ L) e F.cells) refl shifts
            (λ m q h off. (λ z. bare m (h ∙ ap stands z), off)) F.labels;
      }

  -- a conditional branch over an unconditional one turns round
  pub turns_round : (L : List Cell) (T U : Labels) (e p o : Position) (k j r s : ℕ) (x : Condition) (l m : ℕ) (sense : Bool)
      → Resolves T m (total L + k + j)
      → Bare T (total L + k)
      → AllFixedWithin (total L) L
      → Shifts T U (total L + k + j) (total L + k)
      → Follows D τ (cell j o s (jump Unconditional (waits l)) ∷ cell k p r (jump (Conditional x sense) (waits m)) ∷ L) T e
      → Follows D τ (cell k p r (jump (Conditional x (not sense)) (waits l)) ∷ L) U e
  turns_round L T U e p o k j r s x l m sense res bare within shifts F =
      let c = cell j o s (jump Unconditional (waits l)) in
      let b = cell k p r (jump (Conditional x sense) (waits m)) in
      let b' = cell k p r (jump (Conditional x (not sense)) (waits l)) in
      let carry : Carry D τ (c ∷ b ∷ L) e (b' ∷ L) e (λ q. (q ≡ total L + k → ⊥) × (q ≡ total L + k + j → ⊥)) = carry_drop D τ c (b ∷ L) e e in
      let size : 1 ≤ k = F.cells.1.0.solid in
      let solid = solids D τ (c ∷ b ∷ L) (c ∷ b ∷ L) e F.cells in
      let carried : Carry D τ (c ∷ b ∷ L) e (b' ∷ L) e (λ q. q ≤ total L) = λ m p q s a. carry m p q (λ z. omega arith, λ z. omega arith) a in
      let jumped : beq (τ x) (not sense) ≡ true → Way (step D τ) moving p (to l) 0 =
      λ h. first_any (step D τ)
      (as_any (step D τ) {s = 0} (at_newest (Way (step D τ) moving p) c (b ∷ L) e solid (F.cells.1.0.does.1 (unturned (τ x) sense h))))
      (F.cells.0.does.0 refl) in
      let fell : beq (τ x) (not sense) ≡ false → Way (step D τ) moving p e 0 =
      λ h. then_level (step D τ) (F.cells.1.0.does.0 (turned (τ x) sense h))
      (at_end (Way (step D τ) (below 1) (to m)) (c ∷ b ∷ L) e (total L + k + j) refl solid (resolves_heads D τ (c ∷ b ∷ L) e T F.labels res)) in
      record {
        start = carried any (at 0) 0 (omega arith) F.start;
        cells = (
          record { solid = size; does = (jumped, λ h. inr (refl, fell h)) },
          cells_carry D τ (c ∷ b ∷ L) e (b' ∷ L) e (λ q. q ≤ total L) carried L
              (cells_in (total L) L (omega arith) within) F.cells.1.1,
        );
        labels = labels_cut c (b ∷ L) (b' ∷ L) e T U (λ q. (q ≡ total L + k → ⊥) × (q ≡ total L + k + j → ⊥)) carry solid refl shifts
            (λ n q h off. (λ z. bare n (h ∙ ap stands z), off)) F.labels;
      }
