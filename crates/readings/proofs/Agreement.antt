-- Code in which a grown layout is written agrees with the draft wherever the draft leads to an offset of the code.
use Rattle.std.proofs.Common.{◌≡◌, ℕ, zero, suc, ◌+◌, ◌≤◌, Bool, true, false, cond, ◌↔◌, List, length, ℤ, Some, Option, sym, refl, ap, ◌∙◌, subst, inl, inr, arith}
use lib.IntN.{sub_ℕ}
use lib.ListN.{get_or-eq_default}
use Rattle.isa.specs.declared.jumps.Role.{Role}
use Rattle.isa.specs.declared.jumps.Jump.{Jump}
use Rattle.readings.specs.Walk.{Step, stop, on, here, RunsOff}
use Rattle.readings.specs.Agree.{Agrees}
use Rattle.readings.specs.Draft.{Truth, jumps, Draft, Item, item, gap, Position, at, Destination, the_piece, the_kept, placing, enter, pieces_among, pass, draft_step}
use Rattle.readings.specs.Code.{follow, code_step}
use Rattle.readings.specs.Layout.{waits, fixed, Body, bytes, refers, jump, veneer, kept, blank, Cell, Each, Labels, Resolves}
use Rattle.readings.specs.Growth.{Grows}
use Rattle.readings.specs.Layouts.{Written, AllWritten}
use Rattle.readings.proofs.Simulation.{Reaches, Local, runs_off, stops, moves, relays, behind, before, agree}
use Rattle.readings.proofs.Ways.{Pace, moving, below, Way, runs, comes}
use Rattle.readings.proofs.Cells.{Means, Solid, each_both, each_placed, means_map, some_map, CellAt}
use Rattle.readings.proofs.Follows.{Heads, Does, Sound}
use Rattle.readings.proofs.Calls.{gap_nowhere}
use Rattle.readings.proofs.Grown.{grown_follows, grown_solid}
use Rattle.readings.proofs.Kept.{Labelled, grown_labelled}
use Rattle.readings.proofs.Steps.{by_target, follow_leads, Starts}
use Rattle.readings.proofs.Meaning.{meaning, ranking, Anything, end_meaning, means_meaning, cell_at}
use Rattle.readings.proofs.Stands.{at_piece, at_kept, elsewhere}

-- who comes to a position that agrees, agrees
module _ {P Q X : Type 0} (first : P → Step P X) (second : Q → Step Q X) where
  agrees_after : {n : ℕ} (p t : P) (q : Q) → Reaches first n p t → Agrees first second t q → Agrees first second p q
  agrees_after p t q reach a Stays-on =
      let rest = a (λ o. Stays-on (before first reach o.1)) in (
        (λ x. (
          (λ w. let b = behind first reach w.1 in (rest.0 x).0 (b.0, b.2)),
          λ w. let b = (rest.0 x).1 w in before first reach b.1,
        )),
        (
          (λ c. rest.1.0 (λ n e w. let b = before first reach w in c b.0 e b.1)),
          λ c n e w. let b = behind first reach w in rest.1.1 c b.0 e b.2,
        ),
      )

  agrees_way : {m : Pace} {r : ℕ} (p t : P) (q : Q) → Way first m p t r → Agrees first second t q → Agrees first second p q
  agrees_way p t q (runs o) a = λ Stays-on. absurd (Stays-on o)
  agrees_way p t q (comes n x w) a = agrees_after p t q w a

module _ (D : Draft) (L : List Cell) (T : Labels) (t f : ℕ) (grows : Grows D L T t f) (all : length D.items ≤ t)
    (found : ℕ → Option Jump) (reads : ℕ → ℕ → ℤ) (written : AllWritten found reads L)
    (place : ℕ → Option ℕ) (tied : (l q : ℕ) → Resolves T l q ↔ (place l ≡ Some q)) (τ : Truth) where
  abbrev draft : Position → Step Position Destination
  draft = draft_step D τ

  abbrev code : ℕ → Step ℕ Destination
  code = code_step D place found τ

  -- a cell begins there, or it is the end
  abbrev Good : ℕ → Type 0
  Good q = Means L (at t) q Anything

  -- what an offset means, and its rank
  abbrev meant : ℕ → Position
  meant q = meaning L (at t) q

  abbrev rank_of : ℕ → ℕ
  rank_of q = ranking L q

  abbrev Seen : ℕ → Type 0
  Seen q = Local draft code meant rank_of Good q

  firm : Each Solid L
  firm = grown_solid grows

  good : (m : Pace) (p : Position) (q : ℕ) → Heads D τ L (at t) m p q → Good q
  good m p q a = means_map (Way draft m p) Anything (λ x r w. tt) L (at t) q a

  way : (m : Pace) (p : Position) (q : ℕ) → Heads D τ L (at t) m p q → Way draft m p (meant q) (rank_of q)
  way m p q a = means_meaning (Way draft m p) L (at t) q firm a

  moved : (p : Position) (q n : ℕ) → meant q ≡ p → code q ≡ on n → Good n → Way draft moving p (meant n) (rank_of n) → Seen q
  moved p q n h c g (runs o) = runs_off (subst (λ (x : Position). RunsOff draft x) (sym h) o)
  moved p q n h c g (comes zero z w) = let b : ⊥ = omega arith in absurd b
  moved p q n h c g (comes (suc k) z w) = moves n k c g (subst (λ (x : Position). Reaches draft (suc k) x (meant n)) (sym h) w)

  relayed : (p : Position) (r q n : ℕ) → meant q ≡ p → rank_of q ≡ r → code q ≡ on n → Good n → Way draft (below r) p (meant n) (rank_of n) → Seen q
  relayed p r q n h i c g (runs o) = runs_off (subst (λ (x : Position). RunsOff draft x) (sym h) o)
  relayed p r q n h i c g (comes k (inl z) w) = moved p q n h c g (comes k z w)
  relayed p r q n h i c g (comes k (inr z) w) = relays n k c g (subst (λ (x : Position). Reaches draft k x (meant n)) (sym h) w) (omega arith)

  arrived : (p : Position) (q : ℕ) (x : Destination) → meant q ≡ p → code q ≡ stop x → draft p ≡ stop x → Seen q
  arrived p q x h c d = stops x c (0, here (ap draft h ∙ d))

  -- at a piece both stop, at its number
  seen_piece : (i q : ℕ) (x : Item) (p : Position) → meant q ≡ p → p ≡ at i → item D i ≡ x → Starts q x → pass τ i (pieces_among i D.items) x ≡ stop (the_piece (pieces_among i D.items)) → Seen q
  seen_piece i q x p h e is starts d =
      arrived p q (the_piece (pieces_among i D.items)) h
      (at_piece D L T t f grows all place tied found τ i q (subst (Starts q) (sym is) starts))
      (ap draft e ∙ ap (pass τ i (pieces_among i D.items)) is ∙ d)

  -- at a branch both jump, or both pass it
  seen_branch : (ρ : Role) (p : Position) (q k n : ℕ) → meant q ≡ p → code q ≡ cond (jumps τ ρ) (on n) (on (q + k))
      → (jumps τ ρ ≡ true → Heads D τ L (at t) moving p n) → (jumps τ ρ ≡ false → Heads D τ L (at t) moving p (q + k)) → Seen q
  seen_branch ρ p q k n h c taken passed = go (jumps τ ρ) refl
    where
      go : (v : Bool) → jumps τ ρ ≡ v → Seen q
      go true j = moved p q n h (c ∙ ap (λ (v : Bool). cond v (on n) (on (q + k))) j) (good moving p n (taken j)) (way moving p n (taken j))
      go false j = moved p q (q + k) h (c ∙ ap (λ (v : Bool). cond v (on n) (on (q + k))) j) (good moving p (q + k) (passed j)) (way moving p (q + k) (passed j))

  -- what the code does at a cell is what the draft does from its meaning
  seen_cell : (b : Body) (p : Position) (r q k : ℕ) → CellAt q (λ x. x.body ≡ b) L → meant q ≡ p → rank_of q ≡ r → Does D τ L (at t) b p r q k → Written found reads b q k → Labelled T b q → Seen q
  seen_cell bytes p r q k is h i a w l = seen_piece a.0 q _ p h a.1 a.2 refl refl
  seen_cell (refers c m (waits o)) p r q k is h i a w l = absurd w
  seen_cell (refers c m (fixed n)) p r q k is h i a w l = seen_piece a.0 q _ p h a.1 a.2 refl refl
  seen_cell (jump ρ (waits m)) p r q k is h i a w l = absurd w
  seen_cell (jump ρ (fixed n)) p r q k is h i a w l =
      seen_branch ρ p q k n h
      (elsewhere D L T t f grows all place tied found τ (jump ρ (fixed n)) q (λ z. z) (λ o z. z) is
      ∙ ap (follow τ q) w ∙ ap (λ s. cond (jumps τ ρ) s (on (q + k))) (by_target n q))
      a.0 a.1
  seen_cell (veneer c (waits m)) p r q k is h i a w l = absurd w
  seen_cell (veneer c (fixed n)) p r q k is h i a w l =
      relayed p r q n h i
      (elsewhere D L T t f grows all place tied found τ (veneer c (fixed n)) q (λ z. z) (λ o z. z) is
      ∙ follow_leads τ q (found q) (sub_ℕ n q) w ∙ by_target n q)
      (good (below r) p n a) (way (below r) p n a)
  seen_cell (kept m) p r q k is h i a w l =
      let K : Bool → Step Position Destination = λ v. cond v (stop (the_kept m)) (enter (placing D.items m)) in
      arrived p q (the_kept m) h (at_kept D L T t f grows all place tied found τ m q is a.1 l) (ap draft a.0 ∙ ap K a.1)
  seen_cell blank p r q k is h i a w l = runs_off (subst (λ (x : Position). RunsOff draft x) (sym h) a)

  pub record Whole (c : Cell) (q : ℕ) : Type 0 where
    pub sound : Sound D τ L (at t) c q
    pub wrote : Written found reads c.body q c.size
    pub labelled : Labelled T c.body q

  -- all that is known of each cell
  pub whole : Each Whole L
  whole =
      let both = each_both (λ c q. Written found reads c.body q c.size) (λ c q. Labelled T c.body q)
      (λ c q. Written found reads c.body q c.size × Labelled T c.body q) (λ c q a b. (a, b)) L written (grown_labelled grows) in
      each_both (Sound D τ L (at t)) (λ c q. Written found reads c.body q c.size × Labelled T c.body q) Whole
      (λ c q a b. record { sound = a; wrote = b.0; labelled = b.1 }) L (grown_follows τ grows).cells both

  ends : RunsOff draft (at t)
  ends = gap_nowhere D τ t (get_or-eq_default D.items gap {n = t} all)

  seen : (q : ℕ) → Good q → Seen q
  seen q (inl b) =
      let c = cell_at (λ c q. Whole c q × CellAt q (λ x. x ≡ c) L) L (at t) q firm (each_placed Whole L whole) b in
      let is = some_map (λ x n. (n ≡ q) × (x ≡ c.0)) (λ x n. (n ≡ q) × (x.body ≡ c.0.body)) (λ x n z. (z.0, ap (λ y. y.body) z.1)) L c.1.1 in
      seen_cell c.0.body c.0.means c.0.rank q c.0.size is c.2 c.3 c.1.0.sound.does c.1.0.wrote c.1.0.labelled
  seen q (inr b) =
      let h = b.0 in
      runs_off (end_meaning (λ x r. RunsOff draft x) L (at t) q firm (omega arith) ends)

  -- where the draft leads to an offset, the two agree
  pub agrees_at : (m : Pace) (p : Position) (q : ℕ) → Heads D τ L (at t) m p q → Agrees (draft_step D τ) (code_step D place found τ) p q
  agrees_at m p q a = agrees_way draft code p (meant q) q (way m p q a) (agree draft code meant rank_of Good seen q (good m p q a))
