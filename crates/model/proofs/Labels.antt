-- Where labels stand: tests of a place, and what binding a label leaves as it was.
use Rattle.std.proofs.Common.{◌≡◌, ℕ, Bool, true, false, not, ◌≢◌, ◌⊎◌, List, length, Some, None, Option, is_some, is_none, sym, refl, ap, ◌∙◌, inl, inr, length-set}
use Rattle.std.proofs.lemmas.Bool.{eq-eqb, ne_eqb, eqb-true, false≢true}
use Rattle.std.proofs.lemmas.Option.{none-some}
use Rattle.model.specs.declared.rows.Label.{Label}
use Rattle.model.specs.declared.rows.Place.{Place}
use Rattle.model.specs.declared.rows.Place.TheVariants.{Nowhere, At, AliasOf}
use Rattle.model.specs.Labels.{offset_in, alias_in, is_at, is_nowhere, bound_if}

-- a test of a place, and what it says
pub eq-is_at : (at : ℕ) (p : Place) → p ≡ At at → is_at at p ≡ true
eq-is_at at p e = rw e (eq-eqb at at refl)

pub ne_is_at : (at : ℕ) (p : Place) → p ≢ At at → is_at at p ≡ false
ne_is_at at Nowhere h = refl
ne_is_at at (At n) h = ne_eqb n at (λ e. h (ap At e))
ne_is_at at (AliasOf l) h = refl

pub is_at-true : (at : ℕ) (p : Place) → is_at at p ≡ true → p ≡ At at
is_at-true at Nowhere e = absurd (false≢true e)
is_at-true at (At n) e = ap At (eqb-true n at e)
is_at-true at (AliasOf l) e = absurd (false≢true e)

pub is_at-false : (at : ℕ) (p : Place) → is_at at p ≡ false → p ≢ At at
is_at-false at p e h = false≢true (sym e ∙ eq-is_at at p h)

-- a place is this offset or not
pub cases_at : (at : ℕ) (p : Place) → (p ≡ At at) ⊎ (p ≢ At at)
cases_at at p = by (is_at at p) refl
  where
    by : (b : Bool) → is_at at p ≡ b → (p ≡ At at) ⊎ (p ≢ At at)
    by true e = inl (is_at-true at p e)
    by false e = inr (is_at-false at p e)

-- there is one or none
pub cases_place : (o : Option ℕ) → (o ≡ None) ⊎ ((n : ℕ) × (o ≡ Some n))
cases_place None = inl refl
cases_place (Some n) = inr (n, refl)

pub some-known : (n : ℕ) (o : Option ℕ) → o ≡ Some n → o ≢ None
some-known n o e h = none-some n (sym h ∙ e)

pub known-is_some : (o : Option ℕ) → o ≢ None → is_some o ≡ true
known-is_some None h = absurd (h refl)
known-is_some (Some n) h = refl

-- a place that is unbound
pub not_placed : (p : Place) → not (is_nowhere p) ≡ false → p ≡ Nowhere
not_placed Nowhere e = refl
not_placed (At n) e = absurd (false≢true (sym e))
not_placed (AliasOf l) e = absurd (false≢true (sym e))

-- a place with an offset
pub standing_at : (p : Place) → is_none (offset_in p) ≡ false → (n : ℕ) × (p ≡ At n)
standing_at Nowhere e = absurd (false≢true (sym e))
standing_at (At n) e = (n, refl)
standing_at (AliasOf l) e = absurd (false≢true (sym e))

-- a place with neither an offset nor an alias
pub neither : (p : Place) → offset_in p ≡ None → alias_in p ≡ None → p ≡ Nowhere
neither Nowhere e h = refl
neither (At n) e h = absurd (none-some n (sym e))
neither (AliasOf l) e h = absurd (none-some l (sym h))

-- binding a label keeps how many there are
pub length-bound_if : (ls : List Label) (o : Option ℕ) (at : ℕ) → length (bound_if ls o at) ≡ length ls
length-bound_if ls None at = refl
length-bound_if ls (Some l) at = length-set ls l _
