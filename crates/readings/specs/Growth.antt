-- How a layout and its label table come about, call by call, with what each step asks of them. No truth of a condition is in
-- it.
use Rattle.std.specs.Prelude.{◌≡◌, ℕ, suc, ◌+◌, ◌≤◌, Bool, true, false, not, List, [], ◌∷◌}
use Rattle.isa.specs.declared.jumps.Condition.{Condition}
use Rattle.isa.specs.declared.jumps.Role.{Role}
use Rattle.isa.specs.declared.jumps.Role.TheVariants.{Unconditional, Conditional}
use Rattle.readings.specs.Draft.{Draft, item, is_kept, piece, use_of, label, branch, gap, Position, at, to}
use Rattle.readings.specs.Layout.{waits, bytes, refers, jump, veneer, kept, blank, Cell, cell, total, Begins, free, Labels, Resolves, Patches, Places, Shifts, Renames, Bare}

-- the first t items of D are laid out, and no use is fixed to an offset beyond f, the end of the last island
pub data Grows (D : Draft) : List Cell → Labels → ℕ → ℕ → Type 0 where
  begun : {T : Labels} → ((l : ℕ) → T l ≡ free) → Grows D [] T 0 0
  bound : {L : List Cell} {T U : Labels} {t l : ℕ} {f : ℕ} → item D t ≡ label l → is_kept D l ≡ false → T l ≡ free → Places T U l (total L)
      → Grows D L T t f → Grows D L U (suc t) f
  put : {L : List Cell} {T : Labels} {t k : ℕ} {f : ℕ} → item D t ≡ piece (total L) k → 1 ≤ k
      → Grows D L T t f → Grows D (cell k (at t) 0 bytes ∷ L) T (suc t) f
  used : {L : List Cell} {T : Labels} {t k c l : ℕ} {f : ℕ} → item D t ≡ use_of (total L) k c l → 1 ≤ k
      → Grows D L T t f → Grows D (cell k (at t) 0 (refers c l (waits l)) ∷ L) T (suc t) f
  branched : {L : List Cell} {T : Labels} {t k l : ℕ} {ρ : Role} {f : ℕ} → item D t ≡ branch l ρ → 1 ≤ k
      → Grows D L T t f → Grows D (cell k (at t) 0 (jump ρ (waits l)) ∷ L) T (suc t) f
  aligned : {L : List Cell} {T : Labels} {t k : ℕ} {f : ℕ} → item D t ≡ gap → 1 ≤ k
      → Grows D L T t f → Grows D (cell k (at t) 0 blank ∷ L) T (suc t) f
  -- an alignment that adds no byte, and the end of an island
  gone_by : {L : List Cell} {T : Labels} {t : ℕ} {f : ℕ} → item D t ≡ gap
      → Grows D L T t f → Grows D L T (suc t) f
  -- the last branch leads to its own end: it is cut
  cut_to_end : {L : List Cell} {T U : Labels} {t k r l : ℕ} {p : Position} {ρ : Role} {f : ℕ}
      → Resolves T l (total L + k) → f ≤ total L → Shifts T U (total L + k) (total L)
      → Grows D (cell k p r (jump ρ (waits l)) ∷ L) T t f → Grows D L U t f
  -- the last branch is unconditional: labels at its beginning become aliases of its target
  renamed : {L : List Cell} {T U : Labels} {t k r l : ℕ} {p : Position} {f : ℕ}
      → (Resolves T l (total L) → ⊥) → Renames T U (total L) l
      → Grows D (cell k p r (jump Unconditional (waits l)) ∷ L) T t f → Grows D (cell k p r (jump Unconditional (waits l)) ∷ L) U t f
  -- the last branch stands behind an unconditional one, with no label: it is cut
  cut_behind : {L : List Cell} {T U : Labels} {t k j r s l m : ℕ} {p o : Position} {ρ : Role} {f : ℕ}
      → Bare T (total L + k) → f ≤ total L → Shifts T U (total L + k + j) (total L + k)
      → Grows D (cell j o s (jump ρ (waits m)) ∷ cell k p r (jump Unconditional (waits l)) ∷ L) T t f
      → Grows D (cell k p r (jump Unconditional (waits l)) ∷ L) U t f
  -- a conditional branch leads over an unconditional one, with no label: it turns round
  turned_round : {L : List Cell} {T U : Labels} {t k j r s : ℕ} {x : Condition} {l m : ℕ} {p o : Position} {sense : Bool} {f : ℕ}
      → Resolves T m (total L + k + j) → Bare T (total L + k) → f ≤ total L → Shifts T U (total L + k + j) (total L + k)
      → Grows D (cell j o s (jump Unconditional (waits l)) ∷ cell k p r (jump (Conditional x sense) (waits m)) ∷ L) T t f
      → Grows D (cell k p r (jump (Conditional x (not sense)) (waits l)) ∷ L) U t f
  -- within an island, at a gap of the draft or behind its end
  padded : {L : List Cell} {T : Labels} {t k : ℕ} {f : ℕ} → item D t ≡ gap → 1 ≤ k
      → Grows D L T t f → Grows D (cell k (at t) 0 blank ∷ L) T t f
  veneer_laid : {L : List Cell} {T : Labels} {t k c r l : ℕ} {f : ℕ} → item D t ≡ gap → 1 ≤ k
      → Grows D L T t f → Grows D (cell k (to l) (suc r) (veneer c (waits l)) ∷ L) T t f
  kept_laid : {L : List Cell} {T U : Labels} {t k l : ℕ} {f : ℕ} → item D t ≡ gap → 1 ≤ k → is_kept D l ≡ true → T l ≡ free → Places T U l (total L)
      → Grows D L T t f → Grows D (cell k (to l) 0 (kept l) ∷ L) U t f
  -- a waiting use is patched, to where its label is or to a veneer for it
  patched : {L M : List Cell} {T : Labels} {t l q : ℕ} {f g : ℕ} → Patches 0 l q L M → Resolves T l q → f ≤ g → q ≤ g
      → Grows D L T t f → Grows D M T t g
  patched_to_veneer : {L M : List Cell} {T : Labels} {t b l q : ℕ} {f g : ℕ} → Patches b l q L M → Begins L q (λ p r. (p ≡ to l) × (r ≤ b)) → f ≤ g → q ≤ g
      → Grows D L T t f → Grows D M T t g
