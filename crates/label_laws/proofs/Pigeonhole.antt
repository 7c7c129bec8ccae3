-- Numbers below n of which no two are equal are no more than n.
use Rattle.std.proofs.Common.{◌≡◌, ℕ, zero, suc, ◌<◌, ◌≤◌, Bool, true, false, cond, eqb, ◌⊎◌, sym, refl, ap, ◌∙◌, inl, inr, arith}
use Rattle.std.proofs.lemmas.Bool.{eqb-true, eqb-false}

-- v in place of n
abbrev swap : ℕ → ℕ → ℕ → ℕ
swap n v x = cond (eqb x n) v x

-- it was n, or is as it was
abbrev Swapped : ℕ → ℕ → ℕ → Type 0
Swapped n v x = ((x ≡ n) × (swap n v x ≡ v)) ⊎ ((x ≡ n → ⊥) × (swap n v x ≡ x))

swapped : (n v x : ℕ) → Swapped n v x
swapped n v x = go (eqb x n) refl
  where
    go : (b : Bool) → eqb x n ≡ b → Swapped n v x
    go true h = inl (eqb-true x n h, ap (λ (b : Bool). cond b v x) h)
    go false h = inr (eqb-false x n h, ap (λ (b : Bool). cond b v x) h)

pub pigeonhole : (n d : ℕ) (f : ℕ → ℕ) → ((i : ℕ) → i < d → f i < n) → ((i j : ℕ) → i < j → j < d → f i ≡ f j → ⊥) → d ≤ n
pigeonhole n zero f small apart = omega arith
pigeonhole zero (suc d) f small apart = let h = small 0 (omega arith) in omega arith
pigeonhole (suc n) (suc d) f small apart =
    let rest = pigeonhole n d (λ i. swap n (f d) (f i)) (λ i h. below_n i h (swapped n (f d) (f i))) (λ i j less h e. differ i j less h e (swapped n (f d) (f i)) (swapped n (f d) (f j))) in
    omega arith
  where
    last : f d < suc n
    last = small d (omega arith)

    below_n : (i : ℕ) → i < d → Swapped n (f d) (f i) → swap n (f d) (f i) < n
    below_n i h (inl a) =
        let e = a.0 in
        let s = a.1 in
        let k = last in
        let other : f d ≡ n → ⊥ = λ z. apart i d h (omega arith) (e ∙ sym z) in
        omega arith
    below_n i h (inr a) =
        let other = a.0 in
        let s = a.1 in
        let k = small i (omega arith) in
        omega arith

    differ : (i j : ℕ) → i < j → j < d → swap n (f d) (f i) ≡ swap n (f d) (f j) → Swapped n (f d) (f i) → Swapped n (f d) (f j) → ⊥
    differ i j less h e (inl a) (inl b) = apart i j less (omega arith) (a.0 ∙ sym b.0)
    differ i j less h e (inl a) (inr b) = apart j d h (omega arith) (sym b.1 ∙ sym e ∙ a.1)
    differ i j less h e (inr a) (inl b) = apart i d (omega arith) (omega arith) (sym a.1 ∙ e ∙ b.1)
    differ i j less h e (inr a) (inr b) = apart i j less (omega arith) (sym a.1 ∙ e ∙ b.1)
