-- The standing branches stay in order as the tables grow, and as branches come, go and turn round.
use Rattle.std.proofs.Common.{◌≡◌, ℕ, zero, suc, ◌+◌, ◌-◌, ◌<◌, ◌≤◌, List, [], ◌∷◌, ◌++◌, length, get_or, take, set, refl, ⊎_elim, add-one, arith}
use Rattle.std.proofs.lemmas.List.{get_or_append_left, get_or_push, length_push, get_or-take, length-take, length-set, get_or-set_same, get_or-set_other}
use Rattle.std.proofs.lemmas.Bool.{cases_lt, cases_eq}
use Rattle.model.specs.declared.rows.Branch.{Branch}
use Rattle.model.specs.Simplify.{no_branch}
use Rattle.model.specs.Standing.{Stands, AllStand}

-- where there are none, all stand
pub stand_none : (c f : ℕ) → AllStand c f []
stand_none c f k h = let no : ⊥ = omega arith in elim no [ ]

-- the code and the fresh fixups become more
pub stand_more : (c d f g : ℕ) (bs : List Branch) → c ≤ d → f ≤ g → AllStand c f bs → AllStand d g bs
stand_more c d f g bs p q all k h =
    let s : Stands c f bs k = all k h in
    record { begins = s.begins; short = s.short; within = omega arith; waits = omega arith; before_next = s.before_next; earlier_fixup = s.earlier_fixup }

-- a branch of a lower number comes before, in the code and among the fixups
record Ordered (x y : Branch) : Type 0 where
  before : x.end ≤ y.start
  earlier : x.fixup < y.fixup

all_ordered : (c f : ℕ) (bs : List Branch) (j k : ℕ) → j < k → k < length bs → AllStand c f bs → Ordered (get_or bs j no_branch) (get_or bs k no_branch)
all_ordered c f bs j zero h l all = let no : ⊥ = omega arith in elim no [ ]
all_ordered c f bs j (suc k) h l all =
    let s : Stands c f bs k = all k (omega arith) in
    let n : Ordered (get_or bs k no_branch) (get_or bs (suc k) no_branch) = record { before = rw add-one at (s.before_next (omega arith)); earlier = rw add-one at (s.earlier_fixup (omega arith)) } in
    ⊎_elim
    (λ (less : j < k). let o : Ordered (get_or bs j no_branch) (get_or bs k no_branch) = all_ordered c f bs j k less (omega arith) all in record { before = omega arith; earlier = omega arith })
    (λ (same : k ≤ j). let e : k ≡ j = omega arith in rw (← e) n)
    (cases_lt j k)

pub ordered : (c f : ℕ) (bs : List Branch) (j k : ℕ) → j < k → k < length bs → AllStand c f bs → (get_or bs j no_branch).end ≤ (get_or bs k no_branch).start
ordered c f bs j k h l all = (all_ordered c f bs j k h l all).before

-- a branch comes at the end
pub stand_push : (c f d g : ℕ) (bs : List Branch) (b : Branch) → AllStand c f bs → c ≤ b.start → b.start < b.end → b.end ≤ b.start + 8 → b.end ≤ d → f ≤ b.fixup → b.fixup < g → c ≤ d → f ≤ g → AllStand d g (bs ++ b ∷ [])
stand_push c f d g bs b all p q r t u v w x k h = ⊎_elim below last (cases_lt k (length bs))
  where
    last : length bs ≤ k → Stands d g (bs ++ b ∷ []) k
    last m =
        let e : get_or (bs ++ b ∷ []) k no_branch ≡ b = get_or_push bs b no_branch k (omega (arith, length_push bs b)) in
        record {
          begins = rw e q;
          short = rw e r;
          within = rw e t;
          waits = rw e v;
          before_next = λ n. omega (arith, length_push bs b);
          earlier_fixup = λ n. omega (arith, length_push bs b);
        }

    below : k < length bs → Stands d g (bs ++ b ∷ []) k
    below m =
        let s : Stands c f bs k = all k m in
        let e : get_or (bs ++ b ∷ []) k no_branch ≡ get_or bs k no_branch = get_or_append_left bs (b ∷ []) no_branch k m in
        let o : Ordered (get_or bs k no_branch) (get_or (bs ++ b ∷ []) (k + 1) no_branch) = ⊎_elim
        (λ l. rw (get_or_append_left bs (b ∷ []) no_branch (k + 1) l) (record { before = s.before_next l; earlier = s.earlier_fixup l }))
        (λ (l : length bs ≤ k + 1). let n : length bs ≡ k + 1 = omega arith in rw (get_or_push bs b no_branch (k + 1) n) (record { before = omega arith; earlier = omega arith }))
        (cases_lt (k + 1) (length bs)) in
        record {
          begins = rw e s.begins;
          short = rw e s.short;
          within = rw e (omega arith);
          waits = rw e (omega arith);
          before_next = λ n. rw e o.before;
          earlier_fixup = λ n. rw e o.earlier;
        }

-- the last branch goes
pub stand_cut : (c f : ℕ) (bs : List Branch) → 0 < length bs → AllStand c f bs → AllStand (get_or bs (length bs - 1) no_branch).start (f - 1) (take (length bs - 1) bs)
stand_cut c f bs p all k h =
    let m : k < length bs - 1 = omega (arith, length-take (length bs - 1) bs) in
    let s : Stands c f bs k = all k (omega arith) in
    let last : Stands c f bs (length bs - 1) = all (length bs - 1) (omega arith) in
    let o : Ordered (get_or bs k no_branch) (get_or bs (length bs - 1) no_branch) = all_ordered c f bs k (length bs - 1) m (omega arith) all in
    let e : get_or (take (length bs - 1) bs) k no_branch ≡ get_or bs k no_branch = get_or-take (length bs - 1) bs k no_branch m in
    let next : k + 1 < length (take (length bs - 1) bs) → Ordered (get_or bs k no_branch) (get_or (take (length bs - 1) bs) (k + 1) no_branch) = λ n.
    let l : k + 1 < length bs - 1 = omega (arith, length-take (length bs - 1) bs) in
    rw (get_or-take (length bs - 1) bs (k + 1) no_branch l) (record { before = s.before_next (omega arith); earlier = s.earlier_fixup (omega arith) }) in
    record {
      begins = rw e s.begins;
      short = rw e s.short;
      within = rw e o.before;
      waits = rw e (omega arith);
      before_next = λ n. rw e (next n).before;
      earlier_fixup = λ n. rw e (next n).earlier;
    }

-- two branches of one place and one fixup
record Alike (x y : Branch) : Type 0 where
  start : x.start ≡ y.start
  end : x.end ≡ y.end
  fixup : x.fixup ≡ y.fixup

set_alike : (k : ℕ) (bs : List Branch) (b : Branch) → k < length bs → Alike b (get_or bs k no_branch) → (j : ℕ) → Alike (get_or (set bs k b) j no_branch) (get_or bs j no_branch)
set_alike k bs b l a j = ⊎_elim
    (λ (e : j ≡ k). rw (e, get_or-set_same bs k b no_branch l) a)
    (λ n. rw (get_or-set_other bs k j b no_branch n) (record { start = refl; end = refl; fixup = refl }))
    (cases_eq j k)

-- a branch changes, and keeps its place and its fixup
pub stand_set : (c f k : ℕ) (bs : List Branch) (b : Branch) → k < length bs → b.start ≡ (get_or bs k no_branch).start → b.end ≡ (get_or bs k no_branch).end → b.fixup ≡ (get_or bs k no_branch).fixup → AllStand c f bs → AllStand c f (set bs k b)
stand_set c f k bs b l p q r all j h =
    let a : Alike b (get_or bs k no_branch) = record { start = p; end = q; fixup = r } in
    let here : Alike (get_or (set bs k b) j no_branch) (get_or bs j no_branch) = set_alike k bs b l a j in
    let after : Alike (get_or (set bs k b) (j + 1) no_branch) (get_or bs (j + 1) no_branch) = set_alike k bs b l a (j + 1) in
    let n = length-set bs k b in
    let s : Stands c f bs j = all j (omega arith) in
    record {
      begins = omega arith;
      short = omega arith;
      within = omega arith;
      waits = omega arith;
      before_next = λ m. omega (arith, s.before_next (omega arith));
      earlier_fixup = λ m. omega (arith, s.earlier_fixup (omega arith));
    }
