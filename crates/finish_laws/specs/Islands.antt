-- Islands one after another, counted by themselves.
use Rattle.std.specs.Prelude.{◌≡◌, ℕ, zero, suc, Bool, true, false, List, None}
use Rattle.isa.specs.Isa.{Isa}
use Rattle.model.specs.State.{State, with_code}
use Rattle.model.specs.Islands.{island}
use Rattle.model.specs.Finish.{is_busy, filled}

-- So many islands lead from some tables to others: each begins where something waits or is pending, and is complete.
pub data Islands (i : Isa) (force : Bool) : ℕ → State → State → Type 0 where
  none : {s : State} → Islands i force zero s s
  another : {n : ℕ} {s r : State} → is_busy s ≡ true → (island i force 0 s).failed ≡ None → Islands i force n (island i force 0 s).state r → Islands i force (suc n) s r

-- the tables with the pool copied into the places of the constants
abbrev pub with_pool : State → List ℕ → State
with_pool s pool = with_code s (filled s pool s.placed s.code)

-- So many islands, after which nothing waits and nothing is pending, then the pool.
pub record FinishedBy (i : Isa) (force : Bool) (pool : List ℕ) (n : ℕ) (s after : State) : Type 0 where
  pub last : State
  pub islands : Islands i force n s last
  pub idle : is_busy last ≡ false
  pub pool_copied : after ≡ with_pool last pool
