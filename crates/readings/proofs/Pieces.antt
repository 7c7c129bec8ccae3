-- Every piece of the draft has its cell in the layout: at the piece's offset, of its size, with its item as meaning.
use Rattle.std.proofs.Common.{◌≡◌, ℕ, suc, ◌<◌, ◌⊎◌, List, ◌∷◌, sym, refl, ◌∙◌, subst, inl, inr, arith}
use Rattle.isa.specs.declared.jumps.Role.{Role}
use Rattle.isa.specs.declared.jumps.Role.TheVariants.{Unconditional, Conditional}
use Rattle.readings.specs.Draft.{Draft, Item, item, piece, use_of, label, branch, gap, Position, at}
use Rattle.readings.specs.Layout.{Target, waits, Body, bytes, refers, jump, veneer, kept, blank, Cell, cell, total, SomeCell, Labels, Fixes, in_piece, in_branch, in_veneer, Patches, patch_here, patch_there}
use Rattle.readings.specs.Growth.{Grows, begun, bound, put, used, branched, aligned, gone_by, cut_to_end, renamed, cut_behind, turned_round, padded, veneer_laid, kept_laid, patched, patched_to_veneer}
use Rattle.readings.proofs.Cells.{patch_total}
use Rattle.readings.proofs.Grown.{last_or_earlier}

-- the body of a piece, and of one that uses the label l, by the kind c
abbrev pub Plain : Body → Type 0
Plain bytes = Unit {0}
Plain (refers d m x) = ⊥
Plain (jump ρ x) = ⊥
Plain (veneer d x) = ⊥
Plain (kept m) = ⊥
Plain blank = ⊥

abbrev pub Using : ℕ → ℕ → Body → Type 0
Using c l bytes = ⊥
Using c l (refers d m x) = (d ≡ c) × (m ≡ l)
Using c l (jump ρ x) = ⊥
Using c l (veneer d x) = ⊥
Using c l (kept m) = ⊥
Using c l blank = ⊥

-- the cell of an item: at the offset q, of k bytes, meaning the item i
abbrev pub Home : (Body → Type 0) → ℕ → ℕ → ℕ → Cell → ℕ → Type 0
Home B i q k c n = (n ≡ q) × (c.size ≡ k) × (c.means ≡ at i) × B c.body

-- the item i, if it is a piece, has its cell
abbrev pub Held : ℕ → Item → List Cell → Type 0
Held i (piece q k) L = SomeCell (Home Plain i q k) L
Held i (use_of q k c l) L = SomeCell (Home (Using c l) i q k) L
Held i (label l) L = Unit {0}
Held i (branch l ρ) L = Unit {0}
Held i gap L = Unit {0}

held_push : (i : ℕ) (it : Item) (c : Cell) (L : List Cell) → Held i it L → Held i it (c ∷ L)
held_push i (piece q k) c L a = inr a
held_push i (use_of q k d l) c L a = inr a
held_push i (label l) c L a = a
held_push i (branch l ρ) c L a = a
held_push i gap c L a = a

some_pop : (B : Body → Type 0) (i q n : ℕ) (c : Cell) (L : List Cell) → (B c.body → ⊥) → SomeCell (Home B i q n) (c ∷ L) → SomeCell (Home B i q n) L
some_pop B i q n c L no_cell (inl a) = absurd (no_cell a.3)
some_pop B i q n c L no_cell (inr a) = a

held_pop : (i : ℕ) (it : Item) (k r : ℕ) (p : Position) (ρ : Role) (x : Target) (L : List Cell) → Held i it (cell k p r (jump ρ x) ∷ L) → Held i it L
held_pop i (piece q n) k r p ρ x L a = some_pop Plain i q n (cell k p r (jump ρ x)) L (λ z. z) a
held_pop i (use_of q n c l) k r p ρ x L a = some_pop (Using c l) i q n (cell k p r (jump ρ x)) L (λ z. z) a
held_pop i (label l) k r p ρ x L a = a
held_pop i (branch l σ) k r p ρ x L a = a
held_pop i gap k r p ρ x L a = a

plain_fixed : {b l q r : ℕ} {x y : Body} → Fixes b l q r x y → Plain x → Plain y
plain_fixed in_piece a = a
plain_fixed in_branch a = a
plain_fixed (in_veneer h) a = a

using_fixed : (c m : ℕ) {b l q r : ℕ} {x y : Body} → Fixes b l q r x y → Using c m x → Using c m y
using_fixed c m in_piece a = a
using_fixed c m in_branch a = a
using_fixed c m (in_veneer h) a = a

some_fixed : (B : Body → Type 0) (i n k : ℕ) {b l q : ℕ} {L M : List Cell} → ((r : ℕ) (x y : Body) → Fixes b l q r x y → B x → B y) → Patches b l q L M → SomeCell (Home B i n k) L → SomeCell (Home B i n k) M
some_fixed B i n k keeps (patch_here {r = r} {x = x} {y = y} f) (inl a) = inl (a.0, a.1, a.2, keeps r x y f a.3)
some_fixed B i n k keeps (patch_here f) (inr a) = inr a
some_fixed B i n k keeps (patch_there w) (inl a) = inl (sym (patch_total w) ∙ a.0, a.1, a.2, a.3)
some_fixed B i n k keeps (patch_there w) (inr a) = inr (some_fixed B i n k keeps w a)

held_fixed : (i : ℕ) (it : Item) {b l q : ℕ} {L M : List Cell} → Patches b l q L M → Held i it L → Held i it M
held_fixed i (piece n k) w a = some_fixed Plain i n k (λ r x y f z. plain_fixed f z) w a
held_fixed i (use_of n k c m) w a = some_fixed (Using c m) i n k (λ r x y f z. using_fixed c m f z) w a
held_fixed i (label m) w a = a
held_fixed i (branch m ρ) w a = a
held_fixed i gap w a = a

module _ (D : Draft) where
  -- each of the first t items that is a piece has its cell
  abbrev Covers : List Cell → ℕ → Type 0
  Covers L t = (i : ℕ) → i < t → Held i (item D i) L

  covers_on : (L M : List Cell) (t : ℕ) (x : Item) → item D t ≡ x → ((i : ℕ) → Held i (item D i) L → Held i (item D i) M) → Held t x M → Covers L t → Covers M (suc t)
  covers_on L M t x h keeps new so_far i less = go (last_or_earlier i t less)
    where
      go : (i < t) ⊎ (i ≡ t) → Held i (item D i) M
      go (inl k) = keeps i (so_far i k)
      go (inr same) =
          let here : Held t (item D t) M = subst (λ (y : Item). Held t y M) (sym h) new in
          subst (λ (j : ℕ). Held j (item D j) M) (sym same) here

module _ {D : Draft} where
  -- every piece of the draft so far has its cell
  pub grown_covers : {L : List Cell} {T : Labels} {t f : ℕ} → Grows D L T t f → Covers D L t
  grown_covers (begun f) = λ i less. let z : ⊥ = omega arith in absurd z
  grown_covers (bound {L} {T} {U} {t} {l} h r f p g) = covers_on D L L t (label l) h (λ i a. a) tt (grown_covers g)
  grown_covers (put {L} {T} {t} {k} h z g) =
      covers_on D L (cell k (at t) 0 bytes ∷ L) t (piece (total L) k) h (λ i a. held_push i (item D i) (cell k (at t) 0 bytes) L a) (inl (refl, refl, refl, tt)) (grown_covers g)
  grown_covers (used {L} {T} {t} {k} {c} {l} h z g) =
      covers_on D L (cell k (at t) 0 (refers c l (waits l)) ∷ L) t (use_of (total L) k c l) h (λ i a. held_push i (item D i) (cell k (at t) 0 (refers c l (waits l))) L a) (inl (refl, refl, refl, (refl, refl))) (grown_covers g)
  grown_covers (branched {L} {T} {t} {k} {l} {ρ} h z g) =
      covers_on D L (cell k (at t) 0 (jump ρ (waits l)) ∷ L) t (branch l ρ) h (λ i a. held_push i (item D i) (cell k (at t) 0 (jump ρ (waits l))) L a) tt (grown_covers g)
  grown_covers (aligned {L} {T} {t} {k} h z g) =
      covers_on D L (cell k (at t) 0 blank ∷ L) t gap h (λ i a. held_push i (item D i) (cell k (at t) 0 blank) L a) tt (grown_covers g)
  grown_covers (gone_by {L} {T} {t} h g) = covers_on D L L t gap h (λ i a. a) tt (grown_covers g)
  grown_covers (cut_to_end {L} {T} {U} {t} {k} {r} {l} {p} {ρ} a s w g) = λ i less. held_pop i (item D i) k r p ρ (waits l) L (grown_covers g i less)
  grown_covers (renamed a w g) = grown_covers g
  grown_covers (cut_behind {L} {T} {U} {t} {k} {j} {r} {s} {l} {m} {p} {o} {ρ} b a w g) =
      λ i less. held_pop i (item D i) j s o ρ (waits m) (cell k p r (jump Unconditional (waits l)) ∷ L) (grown_covers g i less)
  grown_covers (turned_round {L} {T} {U} {t} {k} {j} {r} {s} {x} {l} {m} {p} {o} {sense} a b c w g) =
      λ i less. held_push i (item D i) _ L
      (held_pop i (item D i) k r p (Conditional x sense) (waits m) L
      (held_pop i (item D i) j s o Unconditional (waits l) (cell k p r (jump (Conditional x sense) (waits m)) ∷ L) (grown_covers g i less)))
  grown_covers (padded {L} h z g) = λ i less. held_push i (item D i) _ L (grown_covers g i less)
  grown_covers (veneer_laid {L} h z g) = λ i less. held_push i (item D i) _ L (grown_covers g i less)
  grown_covers (kept_laid {L} h z r f p g) = λ i less. held_push i (item D i) _ L (grown_covers g i less)
  grown_covers (patched w a h k g) = λ i less. held_fixed i (item D i) w (grown_covers g i less)
  grown_covers (patched_to_veneer w a h k g) = λ i less. held_fixed i (item D i) w (grown_covers g i less)
