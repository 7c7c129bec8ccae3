-- Where the draft places a label.
use Rattle.std.proofs.Common.{◌≡◌, ℕ, zero, suc, ◌<◌, Bool, cond, List, [], ◌∷◌, get_or, refl, ap, ◌∙◌, arith, eq-eqb, ne_eqb}
use Rattle.readings.specs.Draft.{Item, piece, use_of, label, branch, gap, Placing, placed, unplaced, later, placing}
use Rattle.readings.proofs.Apart.{apart}

abbrev Earlier : List Item → ℕ → ℕ → Type 0
Earlier D t l = (i : ℕ) → i < t → get_or D i gap ≡ label l → ⊥

passed : (x : Item) (D : List Item) (t l : ℕ) → (x ≡ label l → ⊥) → placing D l ≡ placed t → placing (x ∷ D) l ≡ placed (suc t)
passed (piece q k) D t l h e = ap later e
passed (use_of q k c m) D t l h e = ap later e
passed (label m) D t l h e =
    let K : Bool → Placing = λ b. cond b (placed zero) (later (placing D l)) in
    ap K (ne_eqb m l (λ z. h (ap label z))) ∙ ap later e
passed (branch m ρ) D t l h e = ap later e
passed gap D t l h e = ap later e

first : (x : Item) (D : List Item) (l : ℕ) → x ≡ label l → placing (x ∷ D) l ≡ placed zero
first (piece q k) D l h = apart (cc)
first (use_of q k c m) D l h = apart (cc)
first (label m) D l h =
    let K : Bool → Placing = λ b. cond b (placed zero) (later (placing D l)) in
    let same : m ≡ l = cc in
    ap K (eq-eqb m l same)
first (branch m ρ) D l h = apart (cc)
first gap D l h = apart (cc)

-- the first item that is the label places it
pub placing_first : (D : List Item) (t l : ℕ) → get_or D t gap ≡ label l → Earlier D t l → placing D l ≡ placed t
placing_first [] t l h none = apart (cc)
placing_first (x ∷ D) zero l h none = first x D l h
placing_first (x ∷ D) (suc t) l h none =
    passed x D t l (none zero (omega arith)) (placing_first D t l h (λ i less e. none (suc i) (omega arith) e))

passed_by : (x : Item) (D : List Item) (l : ℕ) → (x ≡ label l → ⊥) → placing D l ≡ unplaced → placing (x ∷ D) l ≡ unplaced
passed_by (piece q k) D l h e = ap later e
passed_by (use_of q k c m) D l h e = ap later e
passed_by (label m) D l h e =
    let K : Bool → Placing = λ b. cond b (placed zero) (later (placing D l)) in
    ap K (ne_eqb m l (λ z. h (ap label z))) ∙ ap later e
passed_by (branch m ρ) D l h e = ap later e
passed_by gap D l h e = ap later e

-- where no item is the label, nothing places it
pub placing_none : (D : List Item) (l : ℕ) → ((i : ℕ) → get_or D i gap ≡ label l → ⊥) → placing D l ≡ unplaced
placing_none [] l none = refl
placing_none (x ∷ D) l none = passed_by x D l (none zero) (placing_none D l (λ i e. none (suc i) e))
