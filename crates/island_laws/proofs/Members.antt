-- Which uses are in a list, as one is taken from its front or inserted by deadline.
use Rattle.std.proofs.Common.{◌≡◌, ℕ, zero, suc, ◌<◌, ◌⊎◌, List, [], ◌∷◌, length, get_or, sym, refl, inl, inr, ⊎_elim, arith}
use Rattle.std.specs.List.{ContainsAt}
use Rattle.model.specs.declared.rows.Fixup.{Fixup}
use Rattle.model.specs.Fixups.{comes_before, insert_held}
use Rattle.model.proofs.Cases.{either}

pub has_first : (f : Fixup) (fs : List Fixup) → ContainsAt (f ∷ fs) f
has_first f fs = (0, omega arith, λ d. refl)

pub has_later : (f : Fixup) (fs : List Fixup) (g : Fixup) → ContainsAt fs g → ContainsAt (f ∷ fs) g
has_later f fs g h = (suc h.0, omega (arith, h.1), h.2)

pub has_cases : (f : Fixup) (fs : List Fixup) (g : Fixup) → ContainsAt (f ∷ fs) g → (g ≡ f) ⊎ ContainsAt fs g
has_cases f fs g h = by h.0 h.1 h.2
  where
    by : (k : ℕ) → k < length (f ∷ fs) → ((d : Fixup) → get_or (f ∷ fs) k d ≡ g) → (g ≡ f) ⊎ ContainsAt fs g
    by zero l e = inl (sym (e f))
    by (suc k) l e = inr (k, omega arith, e)

pub has_inserted : (f : Fixup) (gs : List Fixup) → ContainsAt (insert_held f gs) f
has_inserted f [] = has_first f []
has_inserted f (g ∷ gs) = either (λ (xs : List Fixup). ContainsAt xs f) (comes_before f g) _ _ (has_first f (g ∷ gs)) (has_later g (insert_held f gs) f (has_inserted f gs))

pub has_insert : (f : Fixup) (gs : List Fixup) (h : Fixup) → ContainsAt gs h → ContainsAt (insert_held f gs) h
has_insert f [] h m = has_later f [] h m
has_insert f (g ∷ gs) h m = either (λ (xs : List Fixup). ContainsAt xs h) (comes_before f g) _ _ (has_later f (g ∷ gs) h m)
    (⊎_elim (λ (e : h ≡ g). rw e (has_first g (insert_held f gs))) (λ (l : ContainsAt gs h). has_later g (insert_held f gs) h (has_insert f gs h l)) (has_cases g gs h m))

pub has_insert_cases : (f : Fixup) (gs : List Fixup) (h : Fixup) → ContainsAt (insert_held f gs) h → (h ≡ f) ⊎ ContainsAt gs h
has_insert_cases f [] h m = has_cases f [] h m
has_insert_cases f (g ∷ gs) h m = either (λ (xs : List Fixup). ContainsAt xs h → (h ≡ f) ⊎ ContainsAt (g ∷ gs) h) (comes_before f g) _ _ (λ l. has_cases f (g ∷ gs) h l)
    (λ l. ⊎_elim (λ (e : h ≡ g). inr (rw e (has_first g gs))) (λ (r : ContainsAt (insert_held f gs) h). ⊎_elim (λ (e : h ≡ f). inl e) (λ (q : ContainsAt gs h). inr (has_later g gs h q)) (has_insert_cases f gs h r)) (has_cases g (insert_held f gs) h l)) m
