-- Where finishing is not refused before any island, no use waits for a lost label.
use Rattle.std.proofs.Common.{◌≡◌, ℕ, false, ltb, List, [], ◌∷◌, ◌++◌, Some, None, Option, arith}
use Rattle.std.specs.List.{AllByRecursion}
use Rattle.std.proofs.lemmas.Bool.{cond_both}
use Rattle.model.specs.declared.rows.Fixup.{Fixup}
use Rattle.model.specs.declared.refusals.Refusal.{Refusal}
use Rattle.model.specs.State.{State, is_open}
use Rattle.model.specs.Labels.{is_lost}
use Rattle.model.specs.Finish.{lower, first_lost, unless_lost, unfit}
use Rattle.model.proofs.Cases.{either}

some_not_none : {X : Type 0} (x : X) → ◌≡◌ {A = Option X} (Some x) None → ⊥
some_not_none x e = let z : ◌≡◌ {A = ℕ} 0 1 = cc in omega arith

lower_some : (f : Fixup) (o : Option Fixup) → lower f o ≡ None → ⊥
lower_some f None e = some_not_none f e
lower_some f (Some g) e = either (λ (o : Option Fixup). o ≡ None → ⊥) (ltb f.offset g.offset) (Some f) (Some g) (some_not_none f) (some_not_none g) e

none_found : (s : State) (fs : List Fixup) → first_lost s fs ≡ None → AllByRecursion (λ (f : Fixup). is_lost s.labels f.label ≡ false) fs
none_found s [] e = tt
none_found s (f ∷ fs) e =
    cond_both (is_lost s.labels f.label) (lower f (first_lost s fs)) (first_lost s fs) (λ (o : Option Fixup). o ≡ None → AllByRecursion (λ (g : Fixup). is_lost s.labels g.label ≡ false) (f ∷ fs))
    (λ _ z. absurd (lower_some f (first_lost s fs) z)) (λ h z. (h, none_found s fs z)) e

unless_none : (o : Option Fixup) (x : Option Refusal) → unless_lost o x ≡ None → o ≡ None
unless_none None x e = cc
unless_none (Some f) x e = absurd (some_not_none _ e)

fit_finds_none : (s : State) (pool : List ℕ) → unfit s pool ≡ None → first_lost s (s.fresh ++ s.held) ≡ None
fit_finds_none s pool =
    let Finds : Option Refusal → Type 0 = λ o. o ≡ None → first_lost s (s.fresh ++ s.held) ≡ None in
    either Finds s.broken _ _ (λ z. absurd (some_not_none _ z)) (either Finds (is_open s) _ _ (λ z. absurd (some_not_none _ z)) (unless_none _ _))

split : (P : Fixup → Type 0) (fs gs : List Fixup) → AllByRecursion P (fs ++ gs) → AllByRecursion P fs × AllByRecursion P gs
split P [] gs a = (tt, a)
split P (f ∷ fs) gs a = let r = split P fs gs a.1 in ((a.0, r.0), r.1)

pub none_lost : (s : State) (pool : List ℕ) → unfit s pool ≡ None → AllByRecursion (λ (f : Fixup). is_lost s.labels f.label ≡ false) s.fresh × AllByRecursion (λ (f : Fixup). is_lost s.labels f.label ≡ false) s.held
none_lost s pool e = split (λ (f : Fixup). is_lost s.labels f.label ≡ false) s.fresh s.held (none_found s (s.fresh ++ s.held) (fit_finds_none s pool e))
