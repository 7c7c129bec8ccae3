-- Lists in which nothing comes twice: one goes out of the middle, or comes in.
use Rattle.std.proofs.Common.{◌≢◌, List, [], ◌∷◌, ◌++◌, sym, subst, append-nil}
use Rattle.std.specs.List.{AllByRecursion}
use Rattle.label_laws.specs.Sound.{Distinct}

pub all_second : {X : Type 0} (P : X → Type 0) (xs ys : List X) → AllByRecursion P (xs ++ ys) → AllByRecursion P ys
all_second P [] ys a = a
all_second P (x ∷ xs) ys a = all_second P xs ys a.1

module _ {X : Type 0} (P : X → Type 0) (y : X) where
  pub all_out : (xs ys : List X) → AllByRecursion P (xs ++ y ∷ ys) → P y × AllByRecursion P (xs ++ ys)
  all_out [] ys a = a
  all_out (x ∷ xs) ys a = let r = all_out xs ys a.1 in (r.0, (a.0, r.1))

  pub all_in : (xs ys : List X) → P y → AllByRecursion P (xs ++ ys) → AllByRecursion P (xs ++ y ∷ ys)
  all_in [] ys p a = (p, a)
  all_in (x ∷ xs) ys p a = (a.0, all_in xs ys p a.1)

pub distinct_out : {X : Type 0} (y : X) (xs ys : List X) → Distinct (xs ++ y ∷ ys) → AllByRecursion (λ z. z ≢ y) (xs ++ ys) × Distinct (xs ++ ys)
distinct_out y [] ys d = d
distinct_out y (x ∷ xs) ys d =
    let r = distinct_out y xs ys d.1 in
    let a = all_out (λ z. z ≢ x) y xs ys d.0 in
    ((λ e. a.0 (sym e), r.0), (a.1, r.1))

pub distinct_in : {X : Type 0} (y : X) (xs ys : List X) → AllByRecursion (λ z. z ≢ y) (xs ++ ys) → Distinct (xs ++ ys) → Distinct (xs ++ y ∷ ys)
distinct_in y [] ys a d = (a, d)
distinct_in y (x ∷ xs) ys a d = (all_in (λ z. z ≢ x) y xs ys (λ e. a.0 (sym e)) d.0, distinct_in y xs ys a.1 d.1)

pub distinct_push : {X : Type 0} (y : X) (xs : List X) → AllByRecursion (λ z. z ≢ y) xs → Distinct xs → Distinct (xs ++ y ∷ [])
distinct_push {X} y xs a d = distinct_in y xs [] (subst (λ (zs : List X). AllByRecursion (λ z. z ≢ y) zs) (sym (append-nil xs)) a) (subst Distinct (sym (append-nil xs)) d)
