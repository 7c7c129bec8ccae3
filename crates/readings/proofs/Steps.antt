-- A step in the code, by what stands at its offset.
use Rattle.std.proofs.Common.{◌≡◌, ℕ, zero, suc, ◌+◌, ◌-◌, ◌<◌, Bool, true, false, cond, ◌||◌, eqb, ltb, List, [], ◌∷◌, get_or, ℤ, pos, negsuc, Some, None, Option, sym, refl, ap, ◌∙◌, true≢false, arith, ltb-false, ltb-true, lt-ltb, eq-eqb, ne_eqb}
use mathlib.Core.Bool.{false≢true}
use Rattle.std.proofs.lemmas.Bool.{eqb-true}
use lib.IntN.{sub_ℕ}
use Rattle.isa.specs.declared.jumps.Jump.{Jump}
use Rattle.isa.specs.declared.jumps.Jump.TheVariants.{Branch, Veneer}
use Rattle.isa.specs.Laws.{Leads}
use Rattle.readings.specs.Walk.{Step, nowhere, on}
use Rattle.readings.specs.Draft.{Truth, jumps, Item, piece, use_of, label, branch, gap, among, pieces_among, Destination}
use Rattle.readings.specs.Code.{by, follow, piece_at, is_here, kept_at}

-- the displacement from q to n leads to n
pub by_target : (n q : ℕ) → by q (sub_ℕ n q) ≡ on n
by_target n q = go (ltb n q) refl
  where
    go : (b : Bool) → ltb n q ≡ b → by q (cond (ltb n q) (negsuc (q - suc n)) (pos (n - q))) ≡ on n
    go true h =
        let less = ltb-true n q h in
        let back : Bool → Step ℕ Destination = λ b. cond b (on (q - suc (q - suc n))) nowhere in
        let there : q - suc (q - suc n) ≡ n = omega arith in
        ap (λ (b : Bool). by q (cond b (negsuc (q - suc n)) (pos (n - q)))) h ∙ ap back (lt-ltb (q - suc n) q (omega arith)) ∙ ap on there
    go false h =
        let more = ltb-false n q h in
        let there : q + (n - q) ≡ n = omega arith in
        ap (λ (b : Bool). by q (cond b (negsuc (q - suc n)) (pos (n - q)))) h ∙ ap on there

-- what leads to a displacement is followed there
pub follow_leads : (τ : Truth) (q : ℕ) (y : Option Jump) (d : ℤ) → Leads y d → follow τ q y ≡ by q d
follow_leads τ q None d a = absurd a
follow_leads τ q (Some (Branch r n e)) d a =
    ap (λ x. cond (jumps τ x) (by q e) (on (q + n))) a.0 ∙ ap (by q) a.1
follow_leads τ q (Some (Veneer e)) d a = ap (by q) a

-- a piece that begins at q
abbrev pub Starts : ℕ → Item → Type 0
Starts q (piece o k) = o ≡ q
Starts q (use_of o k c l) = o ≡ q
Starts q (label l) = ⊥
Starts q (branch l r) = ⊥
Starts q gap = ⊥

starts_here : (o q n : ℕ) (rest : Option ℕ) → o ≡ q → cond (eqb o q) (Some n) rest ≡ Some n
starts_here o q n rest h = ap (λ (b : Bool). cond b (Some n) rest) (eq-eqb o q h)

starts_elsewhere : (o q n : ℕ) (rest : Option ℕ) → (o ≡ q → ⊥) → cond (eqb o q) (Some n) rest ≡ rest
starts_elsewhere o q n rest h = ap (λ (b : Bool). cond b (Some n) rest) (ne_eqb o q h)

-- a piece more before
counted : (n m : ℕ) {x : Option ℕ} → x ≡ Some (suc n + m) → x ≡ Some (n + suc m)
counted n m h = let e : suc n + m ≡ n + suc m = omega arith in h ∙ ap Some e

-- the first item that is a piece at q is found there, by its number among the pieces
pub piece_there : (I : List Item) (i n q : ℕ) → Starts q (get_or I i gap) → ((j : ℕ) → j < i → Starts q (get_or I j gap) → ⊥) → piece_at I n q ≡ Some (n + pieces_among i I)
piece_there [] i n q s none = absurd s
piece_there (piece o k ∷ I) zero n q s none = let e : n ≡ n + 0 = omega arith in starts_here o q n (piece_at I (suc n) q) s ∙ ap Some e
piece_there (use_of o k c l ∷ I) zero n q s none = let e : n ≡ n + 0 = omega arith in starts_here o q n (piece_at I (suc n) q) s ∙ ap Some e
piece_there (label l ∷ I) zero n q s none = absurd s
piece_there (branch l r ∷ I) zero n q s none = absurd s
piece_there (gap ∷ I) zero n q s none = absurd s
piece_there (piece o k ∷ I) (suc i) n q s none =
    starts_elsewhere o q n (piece_at I (suc n) q) (none 0 (omega arith))
    ∙ counted n (pieces_among i I) (piece_there I i (suc n) q s (λ j h z. none (suc j) (omega arith) z))
piece_there (use_of o k c l ∷ I) (suc i) n q s none =
    starts_elsewhere o q n (piece_at I (suc n) q) (none 0 (omega arith))
    ∙ counted n (pieces_among i I) (piece_there I i (suc n) q s (λ j h z. none (suc j) (omega arith) z))
piece_there (label l ∷ I) (suc i) n q s none = piece_there I i n q s (λ j h z. none (suc j) (omega arith) z)
piece_there (branch l r ∷ I) (suc i) n q s none = piece_there I i n q s (λ j h z. none (suc j) (omega arith) z)
piece_there (gap ∷ I) (suc i) n q s none = piece_there I i n q s (λ j h z. none (suc j) (omega arith) z)

pub no_piece_there : (I : List Item) (n q : ℕ) → ((j : ℕ) → Starts q (get_or I j gap) → ⊥) → piece_at I n q ≡ None
no_piece_there [] n q none = refl
no_piece_there (piece o k ∷ I) n q none = starts_elsewhere o q n (piece_at I (suc n) q) (none 0) ∙ no_piece_there I (suc n) q (λ j z. none (suc j) z)
no_piece_there (use_of o k c l ∷ I) n q none = starts_elsewhere o q n (piece_at I (suc n) q) (none 0) ∙ no_piece_there I (suc n) q (λ j z. none (suc j) z)
no_piece_there (label l ∷ I) n q none = no_piece_there I n q (λ j z. none (suc j) z)
no_piece_there (branch l r ∷ I) n q none = no_piece_there I n q (λ j z. none (suc j) z)
no_piece_there (gap ∷ I) n q none = no_piece_there I n q (λ j z. none (suc j) z)

-- the tests of a list of labels
first_among : (m : ℕ) (K : List ℕ) → among m (m ∷ K) ≡ true
first_among m K = ap (λ (b : Bool). b || among m K) (eq-eqb m m refl)

later-among : (l m : ℕ) (K : List ℕ) → among l K ≡ true → among l (m ∷ K) ≡ true
later-among l m K h = go (eqb l m) refl
  where
    go : (b : Bool) → eqb l m ≡ b → (eqb l m || among l K) ≡ true
    go true e = ap (λ (b : Bool). b || among l K) e
    go false e = ap (λ (b : Bool). b || among l K) e ∙ h

not_first : (l m : ℕ) (K : List ℕ) → (l ≡ m → ⊥) → among l (m ∷ K) ≡ true → among l K ≡ true
not_first l m K other h = sym (ap (λ (b : Bool). b || among l K) (ne_eqb l m other)) ∙ h

is_here-true : (q : ℕ) (o : Option ℕ) → is_here q o ≡ true → o ≡ Some q
is_here-true q None e = absurd (false≢true e)
is_here-true q (Some n) e = ap Some (eqb-true n q e)

-- the only label of the list that has the place q is found there
pub kept_there : (K : List ℕ) (place : ℕ → Option ℕ) (l q : ℕ) → among l K ≡ true → place l ≡ Some q
    → ((m : ℕ) → among m K ≡ true → place m ≡ Some q → m ≡ l) → kept_at K place q ≡ Some l
kept_there [] place l q h p only = absurd (false≢true h)
kept_there (m ∷ K) place l q h p only =
    go (λ other. kept_there K place l q (not_first l m K other h) p (λ i a. only i (later-among i m K a))) (is_here q (place m)) refl
  where
    here : is_here q (place l) ≡ true
    here = rw p (eq-eqb q q refl)

    go : ((l ≡ m → ⊥) → kept_at K place q ≡ Some l) → (b : Bool) → is_here q (place m) ≡ b → kept_at (m ∷ K) place q ≡ Some l
    go rest true e = ap (λ (b : Bool). cond b (Some m) (kept_at K place q)) e ∙ ap Some (only m (first_among m K) (is_here-true q (place m) e))
    go rest false e =
        ap (λ (b : Bool). cond b (Some m) (kept_at K place q)) e ∙ rest (λ z. true≢false (sym here ∙ ap (λ i. is_here q (place i)) z ∙ e))

pub no_kept_there : (K : List ℕ) (place : ℕ → Option ℕ) (q : ℕ) → ((m : ℕ) → among m K ≡ true → place m ≡ Some q → ⊥) → kept_at K place q ≡ None
no_kept_there [] place q none = refl
no_kept_there (m ∷ K) place q none = go (no_kept_there K place q (λ i a. none i (later-among i m K a))) (is_here q (place m)) refl
  where
    go : kept_at K place q ≡ None → (b : Bool) → is_here q (place m) ≡ b → kept_at (m ∷ K) place q ≡ None
    go rest true e = absurd (none m (first_among m K) (is_here-true q (place m) e))
    go rest false e = ap (λ (b : Bool). cond b (Some m) (kept_at K place q)) e ∙ rest
