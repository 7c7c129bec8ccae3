-- A use in place can be patched by its set, as far as its own bytes and its label go.
use Rattle.std.proofs.Common.{◌≡◌, ℕ, Bool, true, false, not, ◌||◌, List, ℤ, pos, Some, None, Option, refl, arith, length-drop, length-take}
use Rattle.std.specs.List.{AllByRecursion}
use Rattle.std.proofs.ByRecursion.{All-weaker}
use Rattle.std.proofs.lemmas.Bool.{lt-ltb, eq-eqb, and_from}
use Rattle.isa.specs.Isa.{Isa, bytes_at}
use Rattle.model.specs.declared.rows.Fixup.{Fixup}
use Rattle.model.specs.State.{State}
use Rattle.model.specs.Labels.{root, place_of}
use Rattle.model.specs.Calls.{is_zero, is_use}
use Rattle.model.specs.Fates.{is_whole, fits}
use Rattle.model.specs.Uses.{InPlace}
use Rattle.model.proofs.Orderly.{LabelWhole, Orderly, resolved_whole}

-- a test that follows from another, or holds where that fails
holds_or_not : (a b : Bool) → (a ≡ true → b ≡ true) → (not a || b) ≡ true
holds_or_not true b h = h refl
holds_or_not false b h = refl

place_is_whole : (i : Isa) (o : Option ℕ) → LabelWhole i o → is_whole i o ≡ true
place_is_whole i None h = refl
place_is_whole i (Some at) h = eq-eqb _ _ h

is_zero_from : (d : ℤ) → d ≡ pos 0 → is_zero d ≡ true
is_zero_from d e = rw e refl

pub in_place_is_use : (i : Isa) (code : List ℕ) (f : Fixup) → InPlace i code f → is_use i f.kind (bytes_at i f.kind code f.offset) ≡ true
in_place_is_use i code f p =
    and_from _ _ (eq-eqb _ _ (simp (length-take, length-drop) (omega (arith, p.within)))) (holds_or_not (i.adds f.kind) _ (λ a. is_zero_from _ (p.unpatched a)))

pub fits_in_place : (i : Isa) (s : State) (f : Fixup) → Orderly i s → InPlace i s.code f → fits i s f ≡ true
fits_in_place i s f o p =
    and_from _ _ (lt-ltb _ _ p.kind)
    (and_from _ _ (in_place_is_use i s.code f p)
    (and_from _ _ (eq-eqb _ _ p.whole)
    (place_is_whole i (place_of s.labels f.label) (resolved_whole i s.labels (root s.labels f.label) o.labels_whole))))

-- all that wait fit
pub all_fit : (i : Isa) (s : State) → Orderly i s → AllByRecursion (λ (f : Fixup). fits i s f ≡ true) s.fresh × AllByRecursion (λ (f : Fixup). fits i s f ≡ true) s.held
all_fit i s o = (All-weaker _ _ (λ f p. fits_in_place i s f o p) s.fresh o.uses.fresh_in_place, All-weaker _ _ (λ f p. fits_in_place i s f o p) s.held o.uses.held_in_place)
