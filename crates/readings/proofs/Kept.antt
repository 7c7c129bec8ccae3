-- Traps and constants: each stands in its cell, where its label is, and stays there.
use Rattle.std.proofs.Common.{◌≡◌, ℕ, suc, ◌+◌, ◌<◌, ◌≤◌, true, false, not, ◌⊎◌, List, [], ◌∷◌, sym, ap, ◌∙◌, subst, inl, inr, true≢false, arith}
use Rattle.isa.specs.declared.jumps.Role.{Role}
use Rattle.isa.specs.declared.jumps.Role.TheVariants.{Unconditional, Conditional}
use Rattle.readings.specs.Draft.{Draft, is_kept, Position, at, to}
use Rattle.readings.specs.Layout.{Target, waits, Body, bytes, refers, jump, veneer, kept, blank, Cell, cell, total, Each, SomeCell, free, stands, alias, Labels, Fixes, in_piece, in_branch, in_veneer, Patches, patch_here, patch_there, Places, Shifts, Renames}
use Rattle.readings.specs.Growth.{Grows, begun, bound, put, used, branched, aligned, gone_by, cut_to_end, renamed, cut_behind, turned_round, padded, veneer_laid, kept_laid, patched, patched_to_veneer}
use Rattle.readings.proofs.Apart.{apart}
use Rattle.readings.proofs.Cells.{Solid, patch_total}
use Rattle.readings.proofs.Grown.{grown_solid}
use Rattle.readings.proofs.Aliases.{kept_entry}

-- the label of a kept cell stands at it
abbrev pub Labelled : Labels → Body → ℕ → Type 0
Labelled T bytes q = Unit {0}
Labelled T (refers c l x) q = Unit {0}
Labelled T (jump ρ x) q = Unit {0}
Labelled T (veneer c x) q = Unit {0}
Labelled T (kept l) q = T l ≡ stands q
Labelled T blank q = Unit {0}

abbrev pub AllLabelled : Labels → List Cell → Type 0
AllLabelled T L = Each (λ c q. Labelled T c.body q) L

-- a cell keeps l
abbrev pub Keeping : ℕ → Body → Type 0
Keeping l bytes = ⊥
Keeping l (refers c m x) = ⊥
Keeping l (jump ρ x) = ⊥
Keeping l (veneer c x) = ⊥
Keeping l (kept m) = m ≡ l
Keeping l blank = ⊥

-- a label below n stays where it stands
abbrev Stays : Labels → Labels → ℕ → Type 0
Stays T U n = (m q : ℕ) → q < n → T m ≡ stands q → U m ≡ stands q

shifted_stays : (T U : Labels) (s q : ℕ) → Shifts T U s q → Stays T U s
shifted_stays T U s q shifts m n less h = go (shifts m)
  where
    go : (((U m ≡ T m) × (T m ≡ stands s → ⊥)) ⊎ ((T m ≡ stands s) × (U m ≡ stands q))) → U m ≡ stands n
    go (inl a) = a.0 ∙ h
    go (inr a) = let x = a.0 in let e : n ≡ s = cc in let z : ⊥ = omega arith in absurd z

renamed_stays : (T U : Labels) (s l : ℕ) → Renames T U s l → Stays T U s
renamed_stays T U s l names m n less h = go (names m)
  where
    go : ((U m ≡ T m) ⊎ ((T m ≡ stands s) × (U m ≡ alias l))) → U m ≡ stands n
    go (inl a) = a ∙ h
    go (inr a) = let x = a.0 in let e : n ≡ s = cc in let z : ⊥ = omega arith in absurd z

placed_stays : (T U : Labels) (l q n : ℕ) → T l ≡ free → Places T U l q → Stays T U n
placed_stays T U l q n open-so-far places m i less h = kept_entry T U l q open-so-far places m (stands i) h (λ z. apart (cc))

labelled_stays : (T U : Labels) (n : ℕ) (b : Body) (q : ℕ) → Stays T U n → q < n → Labelled T b q → Labelled U b q
labelled_stays T U n bytes q s h a = a
labelled_stays T U n (refers c l x) q s h a = a
labelled_stays T U n (jump ρ x) q s h a = a
labelled_stays T U n (veneer c x) q s h a = a
labelled_stays T U n (kept l) q s h a = s l q h a
labelled_stays T U n blank q s h a = a

all_labelled_stays : (T U : Labels) (n : ℕ) (L : List Cell) → Stays T U n → total L ≤ n → Each Solid L → AllLabelled T L → AllLabelled U L
all_labelled_stays T U n [] s h f a = tt
all_labelled_stays T U n (c ∷ L) s h f a =
    let size = f.0 in
    (labelled_stays T U n c.body (total L) s (omega arith) a.0, all_labelled_stays T U n L s (omega arith) f.1 a.1)

labelled_fixed : (T : Labels) {b l q r : ℕ} {x y : Body} (n : ℕ) → Fixes b l q r x y → Labelled T y n
labelled_fixed T n in_piece = tt
labelled_fixed T n in_branch = tt
labelled_fixed T n (in_veneer h) = tt

all_labelled_fixed : (T : Labels) {b l q : ℕ} {L M : List Cell} → Patches b l q L M → AllLabelled T L → AllLabelled T M
all_labelled_fixed T (patch_here {L = L} f) a = (labelled_fixed T (total L) f, a.1)
all_labelled_fixed T (patch_there {c} w) a = (subst (λ (n : ℕ). Labelled T c.body n) (patch_total w) a.0, all_labelled_fixed T w a.1)

module _ {D : Draft} where
  pub grown_labelled : {L : List Cell} {T : Labels} {t f : ℕ} → Grows D L T t f → AllLabelled T L
  grown_labelled (begun f) = tt
  grown_labelled (bound {L} {T} {U} {t} {l} h r f p g) =
      all_labelled_stays T U (total L) L (placed_stays T U l (total L) (total L) f p) (omega arith) (grown_solid g) (grown_labelled g)
  grown_labelled (put h k g) = (tt, grown_labelled g)
  grown_labelled (used h k g) = (tt, grown_labelled g)
  grown_labelled (branched h k g) = (tt, grown_labelled g)
  grown_labelled (aligned h k g) = (tt, grown_labelled g)
  grown_labelled (gone_by h g) = grown_labelled g
  grown_labelled (cut_to_end {L} {T} {U} {k = k} r s w g) =
      all_labelled_stays T U (total L + k) L (shifted_stays T U (total L + k) (total L) w) (omega arith) (grown_solid g).1 (grown_labelled g).1
  grown_labelled (renamed {L} {T} {U} {l = l} r w g) =
      (tt, all_labelled_stays T U (total L) L (renamed_stays T U (total L) l w) (omega arith) (grown_solid g).1 (grown_labelled g).1)
  grown_labelled (cut_behind {L} {T} {U} {k = k} {j = j} b s w g) =
      (tt, all_labelled_stays T U (total L + k + j) L (shifted_stays T U (total L + k + j) (total L + k) w) (omega arith) (grown_solid g).1.1 (grown_labelled g).1.1)
  grown_labelled (turned_round {L} {T} {U} {k = k} {j = j} r b s w g) =
      (tt, all_labelled_stays T U (total L + k + j) L (shifted_stays T U (total L + k + j) (total L + k) w) (omega arith) (grown_solid g).1.1 (grown_labelled g).1.1)
  grown_labelled (padded h k g) = (tt, grown_labelled g)
  grown_labelled (veneer_laid h k g) = (tt, grown_labelled g)
  grown_labelled (kept_laid {L} {T} {U} {t} {l = l} h k r f p g) =
      (p.0, all_labelled_stays T U (total L) L (placed_stays T U l (total L) (total L) f p) (omega arith) (grown_solid g) (grown_labelled g))
  grown_labelled (patched {T = T} w r h k g) = all_labelled_fixed T w (grown_labelled g)
  grown_labelled (patched_to_veneer {T = T} w r h k g) = all_labelled_fixed T w (grown_labelled g)

-- a cell that keeps l, where l stands
abbrev pub KeptAt : Labels → ℕ → Cell → ℕ → Type 0
KeptAt T l c n = Keeping l c.body × (T l ≡ stands n)

-- a kept label is still free, or has its cell
abbrev pub Kept : Labels → List Cell → ℕ → Type 0
Kept T L l = (T l ≡ free) ⊎ SomeCell (KeptAt T l) L

some_stays : (T U : Labels) (l n : ℕ) (L : List Cell) → Stays T U n → total L ≤ n → Each Solid L → SomeCell (KeptAt T l) L → SomeCell (KeptAt U l) L
some_stays T U l n [] s h f a = a
some_stays T U l n (c ∷ L) s h f (inl a) = let size = f.0 in inl (a.0, s l (total L) (omega arith) a.1)
some_stays T U l n (c ∷ L) s h f (inr a) = inr (some_stays T U l n L s (omega arith) f.1 a)

kept_stays : (T U : Labels) (l n : ℕ) (L : List Cell) → Stays T U n → (T l ≡ free → U l ≡ free) → total L ≤ n → Each Solid L → Kept T L l → Kept U L l
kept_stays T U l n L s o h f (inl a) = inl (o a)
kept_stays T U l n L s o h f (inr a) = inr (some_stays T U l n L s h f a)

kept_push : (T : Labels) (l : ℕ) (c : Cell) (L : List Cell) → Kept T L l → Kept T (c ∷ L) l
kept_push T l c L (inl a) = inl a
kept_push T l c L (inr a) = inr (inr a)

kept_pop : (T : Labels) (l k r : ℕ) (p : Position) (ρ : Role) (x : Target) (L : List Cell) → Kept T (cell k p r (jump ρ x) ∷ L) l → Kept T L l
kept_pop T l k r p ρ x L (inl a) = inl a
kept_pop T l k r p ρ x L (inr (inl a)) = absurd a.0
kept_pop T l k r p ρ x L (inr (inr a)) = inr a

keeping_fixed : (m : ℕ) {b l q r : ℕ} {x y : Body} → Fixes b l q r x y → Keeping m x → Keeping m y
keeping_fixed m in_piece a = a
keeping_fixed m in_branch a = a
keeping_fixed m (in_veneer h) a = a

some_fixed : (T : Labels) (m : ℕ) {b l q : ℕ} {L M : List Cell} → Patches b l q L M → SomeCell (KeptAt T m) L → SomeCell (KeptAt T m) M
some_fixed T m (patch_here f) (inl a) = inl (keeping_fixed m f a.0, a.1)
some_fixed T m (patch_here f) (inr a) = inr a
some_fixed T m (patch_there w) (inl a) = inl (a.0, a.1 ∙ ap stands (patch_total w))
some_fixed T m (patch_there w) (inr a) = inr (some_fixed T m w a)

kept_fixed : (T : Labels) (m : ℕ) {b l q : ℕ} {L M : List Cell} → Patches b l q L M → Kept T L m → Kept T M m
kept_fixed T m w (inl a) = inl a
kept_fixed T m w (inr a) = inr (some_fixed T m w a)

shifted_free : (T U : Labels) (s q m : ℕ) → Shifts T U s q → T m ≡ free → U m ≡ free
shifted_free T U s q m shifts h = go (shifts m)
  where
    go : (((U m ≡ T m) × (T m ≡ stands s → ⊥)) ⊎ ((T m ≡ stands s) × (U m ≡ stands q))) → U m ≡ free
    go (inl a) = a.0 ∙ h
    go (inr a) = let x = a.0 in apart (cc)

renamed_free : (T U : Labels) (s l m : ℕ) → Renames T U s l → T m ≡ free → U m ≡ free
renamed_free T U s l m names h = go (names m)
  where
    go : ((U m ≡ T m) ⊎ ((T m ≡ stands s) × (U m ≡ alias l))) → U m ≡ free
    go (inl a) = a ∙ h
    go (inr a) = let x = a.0 in apart (cc)

kept_bound : (D : Draft) (L : List Cell) (T U : Labels) (l m : ℕ) → is_kept D l ≡ false → T l ≡ free → Places T U l (total L) → Each Solid L → is_kept D m ≡ true → Kept T L m → Kept U L m
kept_bound D L T U l m r f p solid h a = kept_stays T U m (total L) L (placed_stays T U l (total L) (total L) f p) (λ z. go z (p.1 m)) (omega arith) solid a
  where
    go : T m ≡ free → (m ≡ l) ⊎ (U m ≡ T m) → U m ≡ free
    go z (inl same) = absurd (true≢false (sym h ∙ ap (λ i. is_kept D i) same ∙ r))
    go z (inr same) = same ∙ z

kept_new : (L : List Cell) (T U : Labels) (k l m : ℕ) → T l ≡ free → Places T U l (total L) → Each Solid L → Kept T L m → Kept U (cell k (to l) 0 (kept l) ∷ L) m
kept_new L T U k l m f p solid a = go a (p.1 m)
  where
    go : Kept T L m → (m ≡ l) ⊎ (U m ≡ T m) → Kept U (cell k (to l) 0 (kept l) ∷ L) m
    go a (inl same) = inr (inl (sym same, ap U same ∙ p.0))
    go (inl z) (inr same) = inl (same ∙ z)
    go (inr z) (inr same) = inr (inr (some_stays T U m (total L) L (placed_stays T U l (total L) (total L) f p) (omega arith) solid z))

module _ {D : Draft} where
  pub grown_kept : {L : List Cell} {T : Labels} {t f : ℕ} → Grows D L T t f → (m : ℕ) → is_kept D m ≡ true → Kept T L m
  grown_kept (begun f) = λ m h. inl (f m)
  grown_kept (bound {L} {T} {U} {t} {l} h r f p g) = λ m z. kept_bound D L T U l m r f p (grown_solid g) z (grown_kept g m z)
  grown_kept (put {L} {T} {t} {k} h y g) = λ m z. kept_push T m (cell k (at t) 0 bytes) L (grown_kept g m z)
  grown_kept (used {L} {T} {t} {k} {c} {l} h y g) = λ m z. kept_push T m (cell k (at t) 0 (refers c l (waits l))) L (grown_kept g m z)
  grown_kept (branched {L} {T} {t} {k} {l} {ρ} h y g) = λ m z. kept_push T m (cell k (at t) 0 (jump ρ (waits l))) L (grown_kept g m z)
  grown_kept (aligned {L} {T} {t} {k} h y g) = λ m z. kept_push T m (cell k (at t) 0 blank) L (grown_kept g m z)
  grown_kept (gone_by h g) = grown_kept g
  grown_kept (cut_to_end {L} {T} {U} {t} {k} {r} {l} {p} {ρ} a s w g) = λ m z.
      kept_stays T U m (total L + k) L (shifted_stays T U (total L + k) (total L) w) (shifted_free T U _ _ m w) (omega arith) (grown_solid g).1
      (kept_pop T m k r p ρ (waits l) L (grown_kept g m z))
  grown_kept (renamed {L} {T} {U} {t} {k} {r} {l} {p} a w g) = λ m z.
      kept_push U m (cell k p r (jump Unconditional (waits l))) L (kept_stays T U m (total L) L (renamed_stays T U (total L) l w) (renamed_free T U _ l m w) (omega arith) (grown_solid g).1
      (kept_pop T m k r p Unconditional (waits l) L (grown_kept g m z)))
  grown_kept (cut_behind {L} {T} {U} {t} {k} {j} {r} {s} {l} {m} {p} {o} {ρ} b a w g) = λ i z.
      kept_push U i (cell k p r (jump Unconditional (waits l))) L (kept_stays T U i (total L + k + j) L (shifted_stays T U (total L + k + j) (total L + k) w) (shifted_free T U _ _ i w) (omega arith) (grown_solid g).1.1
      (kept_pop T i k r p Unconditional (waits l) L (kept_pop T i j s o ρ (waits m) (cell k p r (jump Unconditional (waits l)) ∷ L) (grown_kept g i z))))
  grown_kept (turned_round {L} {T} {U} {t} {k} {j} {r} {s} {x} {l} {m} {p} {o} {sense} a b c w g) = λ i z.
      kept_push U i (cell k p r (jump (Conditional x (not sense)) (waits l))) L (kept_stays T U i (total L + k + j) L (shifted_stays T U (total L + k + j) (total L + k) w) (shifted_free T U _ _ i w) (omega arith) (grown_solid g).1.1
      (kept_pop T i k r p (Conditional x sense) (waits m) L (kept_pop T i j s o Unconditional (waits l) (cell k p r (jump (Conditional x sense) (waits m)) ∷ L) (grown_kept g i z))))
  grown_kept (padded {L} {T} {t} {k} h y g) = λ m z. kept_push T m (cell k (at t) 0 blank) L (grown_kept g m z)
  grown_kept (veneer_laid {L} {T} {t} {k} {c} {r} {l} h y g) = λ m z. kept_push T m (cell k (to l) (suc r) (veneer c (waits l))) L (grown_kept g m z)
  grown_kept (kept_laid {L} {T} {U} {t} {k} {l} h y r f p g) = λ m z. kept_new L T U k l m f p (grown_solid g) (grown_kept g m z)
  grown_kept (patched {T = T} w r h k g) = λ m z. kept_fixed T m w (grown_kept g m z)
  grown_kept (patched_to_veneer {T = T} w r h k g) = λ m z. kept_fixed T m w (grown_kept g m z)
