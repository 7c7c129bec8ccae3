-- Ways through a system: they compose, and running off absorbs what comes behind it.
use Rattle.std.proofs.Common.{◌≡◌, ℕ, suc, ◌+◌, ◌<◌, ◌≤◌, ◌⊎◌, inl, inr, arith}
use Rattle.readings.specs.Walk.{Step, nowhere, on, lost, RunsOff}
use Rattle.readings.proofs.Simulation.{Reaches, stays, goes, before}

-- what is asked of the number of steps and the rank at their end: nothing; a step at least; a step at least, or a rank below
pub data Pace : Type 0 where
  any : Pace
  moving : Pace
  below : ℕ → Pace

abbrev pub Meets : Pace → ℕ → ℕ → Type 0
Meets any n r = Unit {0}
Meets moving n r = 1 ≤ n
Meets (below b) n r = (1 ≤ n) ⊎ (r < b)

-- the walk from p runs off, or comes to p', a position of rank r
pub data Way {P X : Type 0} (step : P → Step P X) (m : Pace) (p p' : P) (r : ℕ) : Type 0 where
  runs : RunsOff step p → Way step m p p' r
  comes : (n : ℕ) → Meets m n r → Reaches step n p p' → Way step m p p' r

module _ {P X : Type 0} (step : P → Step P X) where
  chain : {k n : ℕ} {p q r : P} → Reaches step k p q → Reaches step n q r → (m : ℕ) × (m ≡ k + n) × Reaches step m p r
  chain {n = n} stays w = (n, omega arith, w)
  chain (goes a v) w = let rest = chain v w in (suc rest.0, omega arith, goes a rest.2)

  runs_before : {k : ℕ} {p q : P} → Reaches step k p q → RunsOff step q → RunsOff step p
  runs_before reach o = before step reach o.1

-- what is asked is kept by more steps before
meets_more : (m : Pace) (k n j r : ℕ) → j ≡ k + n → Meets m n r → Meets m j r
meets_more any k n j r h a = tt
meets_more moving k n j r h a = omega arith
meets_more (below b) k n j r h (inl a) = inl (omega arith)
meets_more (below b) k n j r h (inr a) = inr a

-- and by more steps behind, at a level rank
meets_then : (m : Pace) (k n j r s : ℕ) → j ≡ k + n → Meets m k r → Meets (below (suc r)) n s → Meets m j s
meets_then any k n j r s h a b = tt
meets_then moving k n j r s h a b = omega arith
meets_then (below c) k n j r s h (inl a) b = inl (omega arith)
meets_then (below c) k n j r s h (inr a) (inl b) = inl (omega arith)
meets_then (below c) k n j r s h (inr a) (inr b) = inr (omega arith)

meets_moving : (m : Pace) (n r : ℕ) → 1 ≤ n → Meets m n r
meets_moving any n r h = tt
meets_moving moving n r h = h
meets_moving (below b) n r h = inl h

module _ {P X : Type 0} (step : P → Step P X) where
  pub idle : {p : P} {r : ℕ} → Way step any p p r
  idle = comes 0 tt stays

  pub level : {p : P} {r : ℕ} → Way step (below (suc r)) p p r
  level = comes 0 (inr (omega arith)) stays

  pub one : {m : Pace} {p q : P} {r : ℕ} → step p ≡ on q → Way step m p q r
  one {m} {p} {q} {r} s = comes 1 (meets_moving m 1 r (omega arith)) (goes s stays)

  pub no_step : {p : P} → step p ≡ nowhere → RunsOff step p
  no_step s = (0, lost s)

  -- any way, then one that is asked for something
  pub first_any : {m : Pace} {p q t : P} {r s : ℕ} → Way step any p q r → Way step m q t s → Way step m p t s
  first_any (runs o) w = runs o
  first_any (comes k x a) (runs o) = runs (runs_before step a o)
  first_any {m} {p} {q} {t} {r} {s} (comes k x a) (comes n y b) =
      let c = chain step a b in
      comes c.0 (meets_more m k n c.0 s c.1 y) c.2

  -- one that is asked for something, then a level one
  pub then_level : {m : Pace} {p q t : P} {r s : ℕ} → Way step m p q r → Way step (below (suc r)) q t s → Way step m p t s
  then_level (runs o) w = runs o
  then_level (comes k x a) (runs o) = runs (runs_before step a o)
  then_level {m} {p} {q} {t} {r} {s} (comes k x a) (comes n y b) =
      let c = chain step a b in
      comes c.0 (meets_then m k n c.0 r s c.1 x y) c.2

  pub as_any : {m : Pace} {p q : P} {r s : ℕ} → Way step m p q r → Way step any p q s
  as_any (runs o) = runs o
  as_any (comes n x a) = comes n tt a

  pub from_moving : {m : Pace} {p q : P} {r s : ℕ} → Way step moving p q r → Way step m p q s
  from_moving (runs o) = runs o
  from_moving {m} {p} {q} {r} {s} (comes n x a) = comes n (meets_moving m n s x) a

  -- who comes to a position that runs off runs off
  pub runs_off : {m : Pace} {p q : P} {r : ℕ} → Way step m p q r → RunsOff step q → RunsOff step p
  runs_off (runs o) z = o
  runs_off (comes n x a) z = runs_before step a z
