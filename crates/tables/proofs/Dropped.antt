-- The standing branches without the last.
use Rattle.std.proofs.Common.{◌≡◌, ℕ, zero, suc, ◌+◌, ◌-◌, ◌<◌, ◌≤◌, List, [], ◌∷◌, ◌++◌, length, get_or, subst, arith}
use Rattle.std.proofs.lemmas.List.{get_or_append_left, get_or_push, length_push}
use Rattle.model.specs.declared.rows.Branch.{Branch}
use Rattle.model.specs.Simplify.{no_branch}
use Rattle.tables.specs.Standing.{Begun, Short, Within, Waiting, InOrder, FixupsInOrder}

module _ (bs : List Branch) where
  abbrev at : ℕ → Branch
  at k = get_or bs k no_branch

  -- a branch ends before any later one begins
  far : Begun bs → InOrder bs → (n k : ℕ) → k + 1 + n < length bs → (at k).end ≤ (at (k + 1 + n)).start
  far b o zero k l = let e : k + 1 ≡ k + 1 + zero = omega arith in subst (λ (j : ℕ). (at k).end ≤ (at j).start) e (o k (omega arith))
  far b o (suc n) k l =
      let earlier = far b o n k (omega arith) in
      let own = b (k + 1 + n) (omega arith) in
      let next = o (k + 1 + n) (omega arith) in
      let e : k + 1 + n + 1 ≡ k + 1 + suc n = omega arith in
      subst (λ (j : ℕ). (at k).end ≤ (at j).start) e (omega (arith, earlier, own, next))

  -- and has an earlier fixup
  far_fixup : FixupsInOrder bs → (n k : ℕ) → k + 1 + n < length bs → (at k).fixup < (at (k + 1 + n)).fixup
  far_fixup o zero k l = let e : k + 1 ≡ k + 1 + zero = omega arith in subst (λ (j : ℕ). (at k).fixup < (at j).fixup) e (o k (omega arith))
  far_fixup o (suc n) k l =
      let earlier = far_fixup o n k (omega arith) in
      let next = o (k + 1 + n) (omega arith) in
      let e : k + 1 + n + 1 ≡ k + 1 + suc n = omega arith in
      subst (λ (j : ℕ). (at k).fixup < (at j).fixup) e (omega (arith, earlier, next))

-- branches ys before a last one b
module _ (ys bs : List Branch) (b : Branch) (e : bs ≡ ys ++ b ∷ []) where
  abbrev last : ℕ
  last = length ys

  long : length bs ≡ last + 1
  long = rw e (length_push ys b)

  same : (k : ℕ) → k < last → get_or bs k no_branch ≡ get_or ys k no_branch
  same k l = rw e (get_or_append_left ys (b ∷ []) no_branch k l)

  here : get_or bs last no_branch ≡ b
  here = rw e (get_or_push ys b no_branch last (omega arith))

  each : (P : Branch → Type 0) → ((k : ℕ) → k < length bs → P (get_or bs k no_branch)) → (k : ℕ) → k < last → P (get_or ys k no_branch)
  each P h k l = subst P (same k l) (h k (omega (arith, long)))

  at_last : (P : Branch → Type 0) → ((k : ℕ) → k < length bs → P (get_or bs k no_branch)) → P b
  at_last P h = subst P here (h last (omega (arith, long)))

  chain : (R : Branch → Branch → Type 0) → ((k : ℕ) → k + 1 < length bs → R (get_or bs k no_branch) (get_or bs (k + 1) no_branch)) → (k : ℕ) → k + 1 < last → R (get_or ys k no_branch) (get_or ys (k + 1) no_branch)
  chain R h k l = subst (λ (x : Branch). R x (get_or ys (k + 1) no_branch)) (same k (omega arith)) (subst (R (get_or bs k no_branch)) (same (k + 1) l) (h k (omega (arith, long))))

  pub begun_front : Begun bs → Begun ys
  begun_front h = each (λ x. x.start < x.end) h

  pub short_front : Short bs → Short ys
  short_front h = each (λ x. x.end ≤ x.start + 8) h

  pub within_front : (c : ℕ) → Within c bs → Within c ys
  within_front c h = each (λ x. x.end ≤ c) h

  pub waiting_front : (f : ℕ) → Waiting f bs → Waiting f ys
  waiting_front f h = each (λ x. x.fixup < f) h

  pub in_order_front : InOrder bs → InOrder ys
  in_order_front h = chain (λ x y. x.end ≤ y.start) h

  pub fixups_in_order_front : FixupsInOrder bs → FixupsInOrder ys
  fixups_in_order_front h = chain (λ x y. x.fixup < y.fixup) h

  pub last_within : (c : ℕ) → Begun bs → Within c bs → b.start ≤ c
  last_within c h w = omega (arith, at_last (λ x. x.start < x.end) h, at_last (λ x. x.end ≤ c) w)

  pub last_waiting : (f : ℕ) → Waiting f bs → b.fixup < f
  last_waiting f h = at_last (λ x. x.fixup < f) h

  pub before_last : Begun bs → InOrder bs → Within b.start ys
  before_last h o k l =
      let i : k + 1 + (last - (k + 1)) ≡ last = omega arith in
      let far : (get_or bs k no_branch).end ≤ (get_or bs last no_branch).start = subst (λ (j : ℕ). (get_or bs k no_branch).end ≤ (get_or bs j no_branch).start) i (far bs h o (last - (k + 1)) k (omega (arith, long))) in
      subst (λ (x : Branch). x.end ≤ b.start) (same k l) (subst (λ (x : Branch). (get_or bs k no_branch).end ≤ x.start) here far)

  pub earlier_fixups : FixupsInOrder bs → Waiting b.fixup ys
  earlier_fixups o k l =
      let i : k + 1 + (last - (k + 1)) ≡ last = omega arith in
      let far : (get_or bs k no_branch).fixup < (get_or bs last no_branch).fixup = subst (λ (j : ℕ). (get_or bs k no_branch).fixup < (get_or bs j no_branch).fixup) i (far_fixup bs o (last - (k + 1)) k (omega (arith, long))) in
      subst (λ (x : Branch). x.fixup < b.fixup) (same k l) (subst (λ (x : Branch). (get_or bs k no_branch).fixup < x.fixup) here far)
