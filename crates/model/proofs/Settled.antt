-- Simplifying keeps the code before the first standing branch.
use Rattle.std.proofs.Common.{◌≡◌, ℕ, zero, suc, ◌+◌, ◌-◌, ◌<◌, ◌≤◌, Bool, List, [], ◌∷◌, length, get_or, take, Result, refl, ◌∙◌, arith, length-take}
use Rattle.std.specs.List.{AllByRecursion}
use Rattle.std.proofs.lemmas.List.{take-take}
use Rattle.std.proofs.ByRecursion.{All-get_or, All-from_get_or, All-take, All-set}
use Rattle.isa.specs.Isa.{Isa}
use Rattle.model.specs.declared.rows.Branch.{Branch}
use Rattle.model.specs.declared.refusals.Refusal.{Refusal}
use Rattle.model.specs.State.{State, is_open}
use Rattle.model.specs.Simplify.{no_branch, last_branch, cut, turned, bytes_of, turn, simplified}
use Rattle.model.specs.Calls.{no_label, is_taken, misaligned, bind, bind_label, optimize_branches}
use Rattle.model.specs.Standing.{Stands, AllStand, first_start, settled}
use Rattle.model.specs.Steps.{BindLabel, OptimizeBranches}
use Rattle.model.specs.Runs.{Run, next}
use Rattle.model.specs.Laws.{SameBefore}
use Rattle.model.proofs.Cases.{either}
use Rattle.model.proofs.Standing.{ordered}
use Rattle.model.proofs.Overwritten.{length-overwritten, overwritten_before}
use Rattle.model.proofs.Rounds.{Taken, RulesKeep, simplified_keeps}
use Rattle.model.proofs.Steady.{Steady, last_stands, rules_keep_steady, forgot_steady, bound_steady}

-- an offset within the code, before which no standing branch begins
pub record Below (n : ℕ) (s : State) : Type 0 where
  pub within : n ≤ length s.code
  pub starts : AllByRecursion (λ (b : Branch). n ≤ b.start) s.branches

-- it comes before a branch of any number
below_start : (n : ℕ) (s : State) (m : ℕ) → m < length s.branches → Below n s → n ≤ (get_or s.branches m no_branch).start
below_start n s m h k = All-get_or (λ (b : Branch). n ≤ b.start) s.branches m no_branch h k.starts

pub cut_below : (n : ℕ) (s : State) → Steady s → Taken s → Below n s → Below n (cut s)
cut_below n s y t k =
    let b = last_stands s y t in
    let h = below_start n s (length s.branches - 1) (omega (arith, t.some)) k in
    record { within = simp length-take (omega (arith, k.within)); starts = All-take _ (length s.branches - 1) s.branches k.starts }

-- the bytes that turn a branch round lie within the code
pub turned_within : (s : State) (m l : ℕ) → m < length s.branches → Steady s → let b = turned (get_or s.branches m no_branch) l in b.start + length (bytes_of b) ≤ length s.code
turned_within s m l h y =
    let b = turned (get_or s.branches m no_branch) l in
    let z : Stands (length s.code) (length s.fresh) s.branches m = y.stand m h in
    simp length-take (omega arith)

pub turn_below : (n : ℕ) (s : State) (m l : ℕ) → m < length s.branches → Steady s → Below n s → Below n (turn s m l)
turn_below n s m l h y k =
    let b = turned (get_or s.branches m no_branch) l in
    record { within = rw (length-overwritten s.code (bytes_of b) b.start (turned_within s m l h y)) k.within; starts = All-set _ s.branches m b (below_start n s m h k) k.starts }

-- and the code up to it is what it was
pub record Before (n : ℕ) (code : List ℕ) (s : State) : Type 0 where
  pub steady : Steady s
  pub below : Below n s
  pub same : take n s.code ≡ code

cut_before : (n : ℕ) (code : List ℕ) (s : State) → Before n code s → Taken s → Before n code (cut s)
cut_before n code s k t = record {
  steady = rules_keep_steady.cuts s k.steady t;
  below = cut_below n s k.steady t k.below;
  same = take-take n (last_branch s).start s.code (below_start n s (length s.branches - 1) (omega (arith, t.some)) k.below) ∙ k.same;
}

turn_before : (n : ℕ) (code : List ℕ) (s : State) (m l : ℕ) → m < length s.branches → Before n code s → Steady (turn s m l) → Before n code (turn s m l)
turn_before n code s m l h k y =
    let b = turned (get_or s.branches m no_branch) l in
    record {
      steady = y;
      below = turn_below n s m l h k.steady k.below;
      same = overwritten_before s.code (bytes_of b) b.start n (below_start n s m h k.below) (omega (arith, turned_within s m l h k.steady)) ∙ k.same;
    }

pub rules_keep_before : (n : ℕ) (code : List ℕ) → RulesKeep (Before n code)
rules_keep_before n code = record {
  cuts = cut_before n code;
  redirects = λ s k t. record { steady = rules_keep_steady.redirects s k.steady t; below = record { within = k.below.within; starts = k.below.starts }; same = k.same };
  turns = λ s k t a. turn_before n code (cut s) (length s.branches - 2) (last_branch s).target (simp length-take (omega (arith, a.two))) (cut_before n code s k t) (rules_keep_steady.turns s k.steady t a);
}

simplified_before : (n : ℕ) (code : List ℕ) (skip : Bool) (s : State) → Before n code s → Before n code (simplified skip s)
simplified_before n code = simplified_keeps (rules_keep_before n code) (λ s k. record { steady = forgot_steady s k.steady; below = record { within = k.below.within; starts = tt }; same = k.same })

-- all begin where the first begins, or after it
starts_from : (c f : ℕ) (bs : List Branch) → AllStand c f bs → AllByRecursion (λ (b : Branch). first_start c bs ≤ b.start) bs
starts_from c f [] all = tt
starts_from c f (b ∷ bs) all = All-from_get_or (λ (x : Branch). b.start ≤ x.start) (b ∷ bs) no_branch from
  where
    from : (k : ℕ) → k < length (b ∷ bs) → b.start ≤ (get_or (b ∷ bs) k no_branch).start
    from zero h = omega arith
    from (suc k) h = let z : Stands c f (b ∷ bs) 0 = all 0 (omega arith) in omega (arith, z.begins, ordered c f (b ∷ bs) 0 (suc k) (omega arith) h all)

settled_within : (c f : ℕ) (bs : List Branch) → AllStand c f bs → first_start c bs ≤ c
settled_within c f [] all = omega arith
settled_within c f (b ∷ bs) all = let z : Stands c f (b ∷ bs) 0 = all 0 (omega arith) in omega (arith, z.begins, z.within)

-- a buffer as it stands
pub before_now : (s : State) → Steady s → Before (settled s) (take (settled s) s.code) s
before_now s k = record { steady = k; below = record { within = settled_within _ _ s.branches k.stand; starts = starts_from _ _ s.branches k.stand }; same = refl }

pub simplified-same : (skip : Bool) (s : State) → Steady s → take (settled s) (simplified skip s).code ≡ take (settled s) s.code
simplified-same skip s k = (simplified_before (settled s) _ skip s (before_now s k)).same

bind_label-same : (i : Isa) (s : State) (l : ℕ) (skip : Bool) → Steady s → take (settled s) (bind_label i s l skip).1.code ≡ take (settled s) s.code
bind_label-same i s l skip k =
    let Same : Result (Unit {0}) Refusal × State → Type 0 = λ x. take (settled s) x.1.code ≡ take (settled s) s.code in
    either Same s.broken _ _ refl (either Same (is_open s) _ _ refl (either Same (no_label s l) _ _ refl (either Same (is_taken s l) _ _ refl (either Same (misaligned i s) _ _ refl
    (simplified-same skip (bind s l) (bound_steady s l k))))))

optimize_same : (s : State) (skip : Bool) → Steady s → take (settled s) (optimize_branches s skip).1.code ≡ take (settled s) s.code
optimize_same s skip k =
    let Same : Result (Unit {0}) Refusal × State → Type 0 = λ x. take (settled s) x.1.code ≡ take (settled s) s.code in
    either Same s.broken _ _ refl (either Same (is_open s) _ _ refl (simplified-same skip s k))

-- the two calls that simplify
pub next_bound_same : (i : Isa) (r : Run) (l : ℕ) (skip : Bool) → Steady r.state → SameBefore r (next i r (BindLabel l skip))
next_bound_same i r l skip k = either (SameBefore r) r.finished _ _ refl (bind_label-same i r.state l skip k)

pub next_optimized_same : (i : Isa) (r : Run) (skip : Bool) → Steady r.state → SameBefore r (next i r (OptimizeBranches skip))
next_optimized_same i r skip k = either (SameBefore r) r.finished _ _ refl (optimize_same r.state skip k)
