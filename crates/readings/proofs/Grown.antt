-- What holds of every layout that grows: a free label is not yet placed, no use is fixed beyond the last island, and the layout
-- follows the draft.
use Rattle.std.proofs.Common.{◌≡◌, ℕ, suc, ◌<◌, true, ◌⊎◌, List, [], sym, refl, ap, ◌∙◌, subst, inl, inr, arith}
use native.Mathlib.Decide.{dec_lt}
use Rattle.readings.specs.Draft.{Truth, Draft, item, label, at}
use Rattle.readings.specs.Layout.{waits, jump, Cell, cell, total, Each, Entry, free, stands, alias, Labels, Places, Shifts, Renames}
use Rattle.readings.specs.Growth.{Grows, begun, bound, put, used, branched, aligned, gone_by, cut_to_end, renamed, cut_behind, turned_round, padded, veneer_laid, kept_laid, patched, patched_to_veneer}
use Rattle.readings.proofs.Apart.{apart}
use Rattle.readings.proofs.Ways.{idle}
use Rattle.readings.proofs.Cells.{Solid}
use Rattle.readings.proofs.Targets.{AllFixedWithin, patch_within, all_fixed_up}
use Rattle.readings.proofs.Follows.{Tells, Follows}
use Rattle.readings.proofs.Carry.{step, solids}
use Rattle.readings.proofs.Placing.{placing_first}
use Rattle.readings.proofs.Calls as Calls
use Rattle.readings.proofs.Simplify as Simplify
use Rattle.readings.proofs.Islands as Islands

-- an item among the first t + 1 is among the first t, or the last of them
pub last_or_earlier : (i t : ℕ) → i < suc t → (i < t) ⊎ (i ≡ t)
last_or_earlier i t h = go (dec_lt i t)
  where
    go : Dec (i < t) → (i < t) ⊎ (i ≡ t)
    go (yes a) = inl a
    go (no a) = inr (omega arith)

module _ (D : Draft) where
  -- a label that is free is not placed so far
  abbrev Open : Labels → ℕ → Type 0
  Open T t = (l i : ℕ) → T l ≡ free → i < t → item D i ≡ label l → ⊥

  open_on : (T : Labels) (t : ℕ) → ((l : ℕ) → item D t ≡ label l → ⊥) → Open T t → Open T (suc t)
  open_on T t other so_far l i f h e = go (last_or_earlier i t h)
    where
      go : (i < t) ⊎ (i ≡ t) → ⊥
      go (inl less) = so_far l i f less e
      go (inr same) = other l (ap (item D) (sym same) ∙ e)

  open_placed : (T U : Labels) (t l q : ℕ) → Places T U l q → Open T t → Open U t
  open_placed T U t l q places so_far m i f h e = go (places.1 m)
    where
      go : (m ≡ l) ⊎ (U m ≡ T m) → ⊥
      go (inl same) = let a = places.0 in let b = ap U same in apart (cc)
      go (inr same) = so_far m i (sym same ∙ f) h e

  open_shifted : (T U : Labels) (t s q : ℕ) → Shifts T U s q → Open T t → Open U t
  open_shifted T U t s q shifts so_far m i f h e = go (shifts m)
    where
      go : (((U m ≡ T m) × (T m ≡ stands s → ⊥)) ⊎ ((T m ≡ stands s) × (U m ≡ stands q))) → ⊥
      go (inl x) = so_far m i (sym x.0 ∙ f) h e
      go (inr x) = let a = x.1 in apart (cc)

  open_renamed : (T U : Labels) (t s l : ℕ) → Renames T U s l → Open T t → Open U t
  open_renamed T U t s l names so_far m i f h e = go (names m)
    where
      go : ((U m ≡ T m) ⊎ ((T m ≡ stands s) × (U m ≡ alias l))) → ⊥
      go (inl x) = so_far m i (sym x ∙ f) h e
      go (inr x) = let a = x.1 in apart (cc)

  open_bound : (T U : Labels) (t l q : ℕ) → item D t ≡ label l → Places T U l q → Open T t → Open U (suc t)
  open_bound T U t l q h places so_far m i f less e = go (last_or_earlier i t less)
    where
      go : (i < t) ⊎ (i ≡ t) → ⊥
      go (inl k) = open_placed T U t l q places so_far m i f k e
      go (inr same) =
          let a = ap (item D) same in
          let is-l : m ≡ l = cc in
          let u = ap U is-l in
          let v = places.0 in
          apart (cc)

module _ {D : Draft} where
  -- the first t items do not place a label that is free
  pub grown_open : {L : List Cell} {T : Labels} {t f : ℕ} → Grows D L T t f → Open D T t
  grown_open (begun f) = λ l i z h e. omega arith
  grown_open (bound {T = T} {U = U} {t = t} {l = l} h r f p g) = open_bound D T U t l _ h p (grown_open g)
  grown_open (put {T = T} {t = t} h k g) = open_on D T t (λ l e. apart (cc)) (grown_open g)
  grown_open (used {T = T} {t = t} h k g) = open_on D T t (λ l e. apart (cc)) (grown_open g)
  grown_open (branched {T = T} {t = t} h k g) = open_on D T t (λ l e. apart (cc)) (grown_open g)
  grown_open (aligned {T = T} {t = t} h k g) = open_on D T t (λ l e. apart (cc)) (grown_open g)
  grown_open (gone_by {T = T} {t = t} h g) = open_on D T t (λ l e. apart (cc)) (grown_open g)
  grown_open (cut_to_end {T = T} {U = U} {t = t} r s w g) = open_shifted D T U t _ _ w (grown_open g)
  grown_open (renamed {T = T} {U = U} {t = t} r w g) = open_renamed D T U t _ _ w (grown_open g)
  grown_open (cut_behind {T = T} {U = U} {t = t} b s w g) = open_shifted D T U t _ _ w (grown_open g)
  grown_open (turned_round {T = T} {U = U} {t = t} r b s w g) = open_shifted D T U t _ _ w (grown_open g)
  grown_open (padded h k g) = grown_open g
  grown_open (veneer_laid h k g) = grown_open g
  grown_open (kept_laid {T = T} {U = U} {t = t} {l = l} h k r f p g) = open_placed D T U t l _ p (grown_open g)
  grown_open (patched w r h k g) = grown_open g
  grown_open (patched_to_veneer w r h k g) = grown_open g

  -- no use is fixed beyond the end of the last island
  pub grown_fixed : {L : List Cell} {T : Labels} {t f : ℕ} → Grows D L T t f → AllFixedWithin f L
  grown_fixed (begun z) = tt
  grown_fixed (bound h r z p g) = grown_fixed g
  grown_fixed (put h k g) = (tt, grown_fixed g)
  grown_fixed (used h k g) = (tt, grown_fixed g)
  grown_fixed (branched h k g) = (tt, grown_fixed g)
  grown_fixed (aligned h k g) = (tt, grown_fixed g)
  grown_fixed (gone_by h g) = grown_fixed g
  grown_fixed (cut_to_end r s w g) = (grown_fixed g).1
  grown_fixed (renamed r w g) = grown_fixed g
  grown_fixed (cut_behind b s w g) = (grown_fixed g).1
  grown_fixed (turned_round r b s w g) = (tt, (grown_fixed g).1.1)
  grown_fixed (padded h k g) = (tt, grown_fixed g)
  grown_fixed (veneer_laid h k g) = (tt, grown_fixed g)
  grown_fixed (kept_laid h k r z p g) = (tt, grown_fixed g)
  grown_fixed (patched {f = n} {g = m} w r h k g) = patch_within n m h k w (grown_fixed g)
  grown_fixed (patched_to_veneer {f = n} {g = m} w r h k g) = patch_within n m h k w (grown_fixed g)

  module _ (τ : Truth) where
    empty : (T : Labels) → ((l : ℕ) → T l ≡ free) → Follows D τ [] T (at 0)
    empty T f = record {
      start = inr (refl, idle (step D τ));
      cells = tt;
      labels = λ l. subst (λ (t : Entry). Tells D τ [] (at 0) l t) (sym (f l)) tt;
    }

    -- every layout that grows follows the draft
    pub grown_follows : {L : List Cell} {T : Labels} {t f : ℕ} → Grows D L T t f → Follows D τ L T (at t)
    grown_follows (begun {T} f) = empty T f
    grown_follows (bound {L} {T} {U} {t} {l} h r f p g) =
        Calls.binds D τ L T U t l h r (placing_first D.items t l h (λ i less e. grown_open g l i f less e)) p (grown_follows g)
    grown_follows (put {L} {T} {t} {k} h z g) = Calls.puts D τ L T t k h z (grown_follows g)
    grown_follows (used {L} {T} {t} {k} {c} {l} h z g) = Calls.uses D τ L T t k c l h z (grown_follows g)
    grown_follows (branched {L} {T} {t} {k} {l} {ρ} h z g) = Calls.branches D τ L T t k l ρ h z (grown_follows g)
    grown_follows (aligned {L} {T} {t} {k} h z g) = Calls.aligns D τ L T t k h z (grown_follows g)
    grown_follows (gone_by {L} {T} {t} h g) = Calls.leaves_gap D τ L T t h (grown_follows g)
    grown_follows (cut_to_end {L} {T} {U} {t} {k} {r} {l} {p} {ρ} {f} a s w g) =
        Simplify.cuts_to_end D τ L T U (at t) p k r l ρ a (all_fixed_up f (total L) L s (grown_fixed g).1) w (grown_follows g)
    grown_follows (renamed {L} {T} {U} {t} {k} {r} {l} {p} a w g) = Simplify.renames D τ L T U (at t) p k r l w (grown_follows g)
    grown_follows (cut_behind {L} {T} {U} {t} {k} {j} {r} {s} {l} {m} {p} {o} {ρ} {f} b a w g) =
        Simplify.cuts_behind D τ (cell j o s (jump ρ (waits m))) L T U (at t) p k r l b (all_fixed_up f (total L) L a (grown_fixed g).1.1) w (grown_follows g)
    grown_follows (turned_round {L} {T} {U} {t} {k} {j} {r} {s} {x} {l} {m} {p} {o} {sense} {f} a b c w g) =
        Simplify.turns_round D τ L T U (at t) p o k j r s x l m sense a b (all_fixed_up f (total L) L c (grown_fixed g).1.1) w (grown_follows g)
    grown_follows (padded {L} {T} {t} {k} h z g) = Islands.pads D τ L T (at t) k (Calls.gap_nowhere D τ t h) z (grown_follows g)
    grown_follows (veneer_laid {L} {T} {t} {k} {c} {r} {l} h z g) = Islands.lays_veneer D τ L T (at t) k c r l (Calls.gap_nowhere D τ t h) z (grown_follows g)
    grown_follows (kept_laid {L} {T} {U} {t} {k} {l} h z r f p g) = Islands.lays_kept D τ L T U (at t) k l (Calls.gap_nowhere D τ t h) z r p (grown_follows g)
    grown_follows (patched {L} {M} {T} {t} {l} {q} w a h k g) = Islands.patches_placed D τ 0 l q L M T (at t) w a (grown_follows g)
    grown_follows (patched_to_veneer {L} {M} {T} {t} {b} {l} {q} w a h k g) = Islands.patches_veneer D τ b l q L M T (at t) w a (grown_follows g)

-- every cell has a byte
pub grown_solid : {D : Draft} {L : List Cell} {T : Labels} {t f : ℕ} → Grows D L T t f → Each Solid L
grown_solid {D} {L} {T} {t} g = solids D (λ c. true) L L (at t) (grown_follows (λ c. true) g).cells
