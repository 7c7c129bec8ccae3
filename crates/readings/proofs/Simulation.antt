-- Two systems side by side: where each position of the second is seen against the first, both walks end alike.
use Rattle.std.proofs.Common.{◌≡◌, ℕ, zero, suc, ◌+◌, ◌<◌, ◌⊎◌, refl, ap, ◌∙◌, subst, inl, inr, arith}
use Rattle.readings.specs.Walk.{Step, stop, nowhere, on, End, arrives, off, Ends, here, lost, then, Arrives, RunsOff, Circles}
use Rattle.readings.specs.Agree.{Agrees}
use Rattle.readings.proofs.Apart.{apart}

-- from one position to another in so many steps
pub data Reaches {P X : Type 0} (step : P → Step P X) : ℕ → P → P → Type 0 where
  stays : {p : P} → Reaches step zero p p
  goes : {n : ℕ} {p q r : P} → step p ≡ on q → Reaches step n q r → Reaches step (suc n) p r

-- One position of the second system, which means one of the first: the first runs off from there; or both stop alike; or a step of
-- the second is one or more steps of the first; or it is any number of steps, also none, and a rank falls.
pub data Local {P Q X : Type 0} (first : P → Step P X) (second : Q → Step Q X) (means : Q → P) (rank : Q → ℕ) (Good : Q → Type 0) (q : Q) : Type 0 where
  runs_off : RunsOff first (means q) → Local first second means rank Good q
  stops : (x : X) → second q ≡ stop x → Arrives first (means q) x → Local first second means rank Good q
  moves : (q' : Q) (k : ℕ) → second q ≡ on q' → Good q' → Reaches first (suc k) (means q) (means q') → Local first second means rank Good q
  relays : (q' : Q) (k : ℕ) → second q ≡ on q' → Good q' → Reaches first k (means q) (means q') → rank q' < rank q → Local first second means rank Good q

module _ {P X : Type 0} (step : P → Step P X) where
  -- a walk ends in one way
  one_end : {n m : ℕ} {p : P} {e f : End X} → Ends step n p e → Ends step m p f → e ≡ f
  one_end (here a) (here b) = cc
  one_end (here a) (lost b) = apart (cc)
  one_end (here a) (then b r) = apart (cc)
  one_end (lost a) (here b) = apart (cc)
  one_end (lost a) (lost b) = refl
  one_end (lost a) (then b r) = apart (cc)
  one_end (then a r) (here b) = apart (cc)
  one_end (then a r) (lost b) = apart (cc)
  one_end {e = e} {f = f} (then {q = q} a r) (then {n = m} {q = q'} b s) =
      let same_next : q' ≡ q = cc in
      one_end r (subst (λ (x : P). Ends step m x f) same_next s)

  -- what is left of a walk behind a position that it reaches
  pub behind : {k n : ℕ} {p q : P} {e : End X} → Reaches step k p q → Ends step n p e → (m : ℕ) × (n ≡ k + m) × Ends step m q e
  behind {n = n} stays e = (n, omega arith, e)
  behind (goes a r) (here b) = apart (cc)
  behind (goes a r) (lost b) = apart (cc)
  behind {e = f} (goes {n = k} {q = q} a r) (then {n = n} {q = q'} b s) =
      let same_next : q' ≡ q = cc in
      let rest = behind r (subst (λ (x : P). Ends step n x f) same_next s) in
      (rest.0, omega arith, rest.2)

  -- a walk goes on from a position that it reaches
  pub before : {k n : ℕ} {p q : P} {e : End X} → Reaches step k p q → Ends step n q e → (m : ℕ) × Ends step m p e
  before {n = n} stays e = (n, e)
  before (goes a r) e = let rest = before r e in (suc rest.0, then a rest.1)

module _ {P Q X : Type 0} (first : P → Step P X) (second : Q → Step Q X) (means : Q → P) (rank : Q → ℕ) (Good : Q → Type 0) (seen : (q : Q) → Good q → Local first second means rank Good q) where
  abbrev Sooner : X → ℕ → Type 0
  Sooner x n = (m : ℕ) → m < n → (q : Q) → Good q → Ends first m (means q) (arrives x) → Arrives second q x

  abbrev Lower : X → ℕ → ℕ → Type 0
  Lower x n r = (q : Q) → Good q → rank q < r → Ends first n (means q) (arrives x) → Arrives second q x

  one_more : (x : X) (q q' : Q) → second q ≡ on q' → Arrives second q' x → Arrives second q x
  one_more x q q' s a = (suc a.0, then s a.1)

  relay : (x : X) (n r : ℕ) → Sooner x n → Lower x n r → (k : ℕ) (q' : Q) → Good q' → rank q' < r → (m : ℕ) → n ≡ k + m → Ends first m (means q') (arrives x) → Arrives second q' x
  relay x n r sooner lower zero q' good h m e ends =
      let same : m ≡ n = omega arith in
      lower q' good h (subst (λ (i : ℕ). Ends first i (means q') (arrives x)) same ends)
  relay x n r sooner lower (suc k) q' good h m e ends = sooner m (omega arith) q' good ends

  at : (x : X) (n r : ℕ) → Sooner x n → Lower x n r → (q : Q) → rank q < suc r → Ends first n (means q) (arrives x) → Local first second means rank Good q → Arrives second q x
  at x n r sooner lower q h e (runs_off o) = apart (let c = one_end first e o.1 in cc)
  at x n r sooner lower q h e (stops y s a) =
      let c = one_end first e a.1 in
      let eq : y ≡ x = cc in
      (0, here (s ∙ ap stop eq))
  at x n r sooner lower q h e (moves q' k s good reach) =
      let rest = behind first reach e in
      one_more x q q' s (sooner rest.0 (omega arith) q' good rest.2)
  at x n r sooner lower q h e (relays q' k s good reach less) =
      let rest = behind first reach e in
      one_more x q q' s (relay x n r sooner lower k q' good (omega arith) rest.0 rest.1 rest.2)

  inner : (x : X) (n : ℕ) → Sooner x n → (r : ℕ) → Lower x n r
  inner x n sooner zero q good h e = let b : ⊥ = omega arith in absurd b
  inner x n sooner (suc r) q good h e = at x n r sooner (inner x n sooner r) q h e (seen q good)

  outer : (x : X) (n : ℕ) → Sooner x n
  outer x zero m h q good e = let b : ⊥ = omega arith in absurd b
  outer x (suc n) m h q good e =
      inner x m (λ i less q' good' e'. outer x n i (omega arith) q' good' e') (suc (rank q)) q good (omega arith) e

  forth : (x : X) (q : Q) → Good q → Arrives first (means q) x → Arrives second q x
  forth x q good a = outer x (suc a.0) a.0 (omega arith) q good a.1

  -- however the second ends, the first ends in the same way or runs off
  abbrev Mirrors : Q → End X → Type 0
  Mirrors q e = RunsOff first (means q) ⊎ ((m : ℕ) × Ends first m (means q) e)

  join : (q q' : Q) (e : End X) (k : ℕ) → Reaches first k (means q) (means q') → Mirrors q' e → Mirrors q e
  join q q' e k reach (inl o) = let w = before first reach o.1 in inl (w.0, w.1)
  join q q' e k reach (inr o) = inr (before first reach o.1)

  stopped : {q : Q} {x y : X} → second q ≡ stop y → Local first second means rank Good q → second q ≡ stop x → Mirrors q (arrives x)
  stopped t (runs_off o) s = inl o
  stopped {q = q} {x = x} {y = y} t (stops z u a) s =
      let eq : z ≡ x = cc in
      inr (a.0, subst (λ (v : X). Ends first a.0 (means q) (arrives v)) eq a.1)
  stopped t (moves q' k u good reach) s = apart (cc)
  stopped t (relays q' k u good reach less) s = apart (cc)

  strayed : {q : Q} → Local first second means rank Good q → second q ≡ nowhere → Mirrors q off
  strayed (runs_off o) s = inl o
  strayed (stops z u a) s = apart (cc)
  strayed (moves q' k u good reach) s = apart (cc)
  strayed (relays q' k u good reach less) s = apart (cc)

  stepped : {q q'' : Q} {e : End X} → Local first second means rank Good q → second q ≡ on q'' → (Good q'' → Mirrors q'' e) → Mirrors q e
  stepped (runs_off o) s ih = inl o
  stepped (stops z u a) s ih = apart (cc)
  stepped {q} {q''} {e} (moves q' k u good reach) s ih =
      let eq : q' ≡ q'' = cc in
      join q q'' e (suc k) (subst (λ (v : Q). Reaches first (suc k) (means q) (means v)) eq reach) (ih (subst Good eq good))
  stepped {q} {q''} {e} (relays q' k u good reach less) s ih =
      let eq : q' ≡ q'' = cc in
      join q q'' e k (subst (λ (v : Q). Reaches first k (means q) (means v)) eq reach) (ih (subst Good eq good))

  back : {n : ℕ} {q : Q} {e : End X} → Ends second n q e → Good q → Mirrors q e
  back {q = q} (here s) good = stopped s (seen q good) s
  back {q = q} (lost s) good = strayed (seen q good) s
  back {q = q} (then s w) good = stepped (seen q good) s (λ g. back w g)

  pub agree : (q : Q) → Good q → Agrees first second (means q) q
  agree q good Stays-on = (
    (λ x. (forth x q good, λ a. only (back a.1 good))),
    (
      (λ c n e w. none c (back w good)),
      λ c n e w. still c e (n, w),
    ),
  )
    where
      only : {x : X} → Mirrors q (arrives x) → Arrives first (means q) x
      only (inl o) = absurd (Stays-on o)
      only (inr o) = o

      none : {e : End X} → Circles first (means q) → Mirrors q e → ⊥
      none c (inl o) = c o.0 off o.1
      none {e} c (inr o) = c o.0 e o.1

      still : Circles second q → (e : End X) → ((n : ℕ) × Ends first n (means q) e) → ⊥
      still c (arrives x) w = let a = forth x q good w in c a.0 (arrives x) a.1
      still c off w = Stays-on w
