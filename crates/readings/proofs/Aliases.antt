-- Following aliases ends: every label resolves to an offset, or its aliases end at a label that is not placed.
use Rattle.std.proofs.Common.{◌≡◌, ℕ, ◌⊎◌, List, sym, ap, ◌∙◌, subst, inl, inr}
use Rattle.readings.specs.Draft.{Draft}
use Rattle.readings.specs.Layout.{Cell, Entry, free, stands, alias, Labels, Resolves, found, through, Places, Shifts, Renames}
use Rattle.readings.specs.Growth.{Grows, begun, bound, put, used, branched, aligned, gone_by, cut_to_end, renamed, cut_behind, turned_round, padded, veneer_laid, kept_laid, patched, patched_to_veneer}
use Rattle.readings.proofs.Apart.{apart}

-- its aliases end at a label that is not placed
pub data Dangles (T : Labels) : ℕ → Type 0 where
  open_end : {l : ℕ} → T l ≡ free → Dangles T l
  dangling : {l m : ℕ} → T l ≡ alias m → Dangles T m → Dangles T l

-- the label resolves to an offset, or its aliases end
abbrev pub Settles : Labels → ℕ → Type 0
Settles T l = ((q : ℕ) × Resolves T l q) ⊎ Dangles T l

further : (T : Labels) (l m : ℕ) → T l ≡ alias m → Settles T m → Settles T l
further T l m h (inl a) = inl (a.0, through h a.1)
further T l m h (inr a) = inr (dangling h a)

-- a label that was free is placed
module _ (T U : Labels) (l q : ℕ) (open-so-far : T l ≡ free) (places : Places T U l q) where
  pub kept_entry : (m : ℕ) (x : Entry) → T m ≡ x → (x ≡ free → ⊥) → U m ≡ x
  kept_entry m x h other = go (places.1 m)
    where
      go : (m ≡ l) ⊎ (U m ≡ T m) → U m ≡ x
      go (inl same) = absurd (other (sym h ∙ ap T same ∙ open-so-far))
      go (inr same) = same ∙ h

  placed_resolves : {m n : ℕ} → Resolves T m n → Resolves U m n
  placed_resolves {m} {n} (found h) = found (kept_entry m (stands n) h (λ z. apart (cc)))
  placed_resolves {m} {n} (through {m = o} h r) = through (kept_entry m (alias o) h (λ z. apart (cc))) (placed_resolves r)

  placed_dangles : {m : ℕ} → Dangles T m → Settles U m
  placed_dangles {m} (open_end h) = go (places.1 m)
    where
      go : (m ≡ l) ⊎ (U m ≡ T m) → Settles U m
      go (inl same) = inl (q, found (ap U same ∙ places.0))
      go (inr same) = inr (open_end (same ∙ h))
  placed_dangles {m} (dangling {m = o} h d) = further U m o (kept_entry m (alias o) h (λ z. apart (cc))) (placed_dangles d)

  placed_settles : (m : ℕ) → Settles T m → Settles U m
  placed_settles m (inl a) = inl (a.0, placed_resolves a.1)
  placed_settles m (inr a) = placed_dangles a

-- labels move
module _ (T U : Labels) (s q : ℕ) (shifts : Shifts T U s q) where
  shifted_entry : (m : ℕ) (x : Entry) → T m ≡ x → (x ≡ stands s → ⊥) → U m ≡ x
  shifted_entry m x h other = go (shifts m)
    where
      go : (((U m ≡ T m) × (T m ≡ stands s → ⊥)) ⊎ ((T m ≡ stands s) × (U m ≡ stands q))) → U m ≡ x
      go (inl a) = a.0 ∙ h
      go (inr a) = absurd (other (sym h ∙ a.0))

  shifted_resolves : {m n : ℕ} → Resolves T m n → Settles U m
  shifted_resolves {m} {n} (found h) = go (shifts m)
    where
      go : (((U m ≡ T m) × (T m ≡ stands s → ⊥)) ⊎ ((T m ≡ stands s) × (U m ≡ stands q))) → Settles U m
      go (inl a) = inl (n, found (a.0 ∙ h))
      go (inr a) = inl (q, found a.1)
  shifted_resolves {m} {n} (through {m = o} h r) = further U m o (shifted_entry m (alias o) h (λ z. apart (cc))) (shifted_resolves r)

  shifted_dangles : {m : ℕ} → Dangles T m → Dangles U m
  shifted_dangles {m} (open_end h) = open_end (shifted_entry m free h (λ z. apart (cc)))
  shifted_dangles {m} (dangling {m = o} h d) = dangling (shifted_entry m (alias o) h (λ z. apart (cc))) (shifted_dangles d)

  shifted_settles : (m : ℕ) → Settles T m → Settles U m
  shifted_settles m (inl a) = shifted_resolves a.1
  shifted_settles m (inr a) = inr (shifted_dangles a)

-- labels at s become aliases of l, which does not resolve to s
module _ (T U : Labels) (s l : ℕ) (elsewhere : Resolves T l s → ⊥) (names : Renames T U s l) where
  renamed_entry : (m : ℕ) (x : Entry) → T m ≡ x → (x ≡ stands s → ⊥) → U m ≡ x
  renamed_entry m x h other = go (names m)
    where
      go : ((U m ≡ T m) ⊎ ((T m ≡ stands s) × (U m ≡ alias l))) → U m ≡ x
      go (inl a) = a ∙ h
      go (inr a) = absurd (other (sym h ∙ a.0))

  renamed_elsewhere : {m n : ℕ} → (n ≡ s → ⊥) → Resolves T m n → Resolves U m n
  renamed_elsewhere {m} {n} other (found h) = found (renamed_entry m (stands n) h (λ z. other (let w = z in cc)))
  renamed_elsewhere {m} {n} other (through {m = o} h r) = through (renamed_entry m (alias o) h (λ z. apart (cc))) (renamed_elsewhere other r)

  renamed_dangles : {m : ℕ} → Dangles T m → Dangles U m
  renamed_dangles {m} (open_end h) = open_end (renamed_entry m free h (λ z. apart (cc)))
  renamed_dangles {m} (dangling {m = o} h d) = dangling (renamed_entry m (alias o) h (λ z. apart (cc))) (renamed_dangles d)

  target_settles : Settles T l → Settles U l
  target_settles (inl a) = inl (a.0, renamed_elsewhere (λ z. elsewhere (subst (λ (n : ℕ). Resolves T l n) z a.1)) a.1)
  target_settles (inr a) = inr (renamed_dangles a)

  renamed_resolves : {m n : ℕ} → Settles U l → Resolves T m n → Settles U m
  renamed_resolves {m} {n} t (found h) = go (names m)
    where
      go : ((U m ≡ T m) ⊎ ((T m ≡ stands s) × (U m ≡ alias l))) → Settles U m
      go (inl a) = inl (n, found (a ∙ h))
      go (inr a) = further U m l a.1 t
  renamed_resolves {m} {n} t (through {m = o} h r) = further U m o (renamed_entry m (alias o) h (λ z. apart (cc))) (renamed_resolves t r)

  renamed_settles : (m : ℕ) → Settles T l → Settles T m → Settles U m
  renamed_settles m t (inl a) = renamed_resolves (target_settles t) a.1
  renamed_settles m t (inr a) = inr (renamed_dangles a)

module _ {D : Draft} where
  pub grown_settles : {L : List Cell} {T : Labels} {t f : ℕ} → Grows D L T t f → (m : ℕ) → Settles T m
  grown_settles (begun f) = λ m. inr (open_end (f m))
  grown_settles (bound {T = T} {U = U} {l = l} h r f p g) = λ m. placed_settles T U l _ f p m (grown_settles g m)
  grown_settles (put h k g) = grown_settles g
  grown_settles (used h k g) = grown_settles g
  grown_settles (branched h k g) = grown_settles g
  grown_settles (aligned h k g) = grown_settles g
  grown_settles (gone_by h g) = grown_settles g
  grown_settles (cut_to_end {T = T} {U = U} r s w g) = λ m. shifted_settles T U _ _ w m (grown_settles g m)
  grown_settles (renamed {T = T} {U = U} {l = l} r w g) = λ m. renamed_settles T U _ l r w m (grown_settles g l) (grown_settles g m)
  grown_settles (cut_behind {T = T} {U = U} b s w g) = λ m. shifted_settles T U _ _ w m (grown_settles g m)
  grown_settles (turned_round {T = T} {U = U} r b s w g) = λ m. shifted_settles T U _ _ w m (grown_settles g m)
  grown_settles (padded h k g) = grown_settles g
  grown_settles (veneer_laid h k g) = grown_settles g
  grown_settles (kept_laid {T = T} {U = U} {l = l} h k r f p g) = λ m. placed_settles T U l _ f p m (grown_settles g m)
  grown_settles (patched w r h k g) = grown_settles g
  grown_settles (patched_to_veneer w r h k g) = grown_settles g
