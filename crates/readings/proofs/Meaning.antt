-- The position of the draft that an offset of the code means: the meaning of the cell that begins there, or of the end.
use Rattle.std.proofs.Common.{◌≡◌, ℕ, ◌≤◌, Bool, true, false, cond, eqb, List, [], ◌∷◌, sym, ap, ◌∙◌, subst, inl, inr, arith, eq-eqb, ne_eqb}
use Rattle.readings.specs.Draft.{Position}
use Rattle.readings.specs.Layout.{Cell, total, Each, Begins}
use Rattle.readings.proofs.Cells.{Means, Solid, begins_below}

abbrev pub meaning : List Cell → Position → ℕ → Position
meaning [] e q = e
meaning (c ∷ L) e q = cond (eqb q (total L)) c.means (meaning L e q)

abbrev pub ranking : List Cell → ℕ → ℕ
ranking [] q = 0
ranking (c ∷ L) q = cond (eqb q (total L)) c.rank (ranking L q)

-- a test's outcome, put into a predicate of what it picks
picks : (P : Position → ℕ → Type 0) (b : Bool) (x y : Position) (r s : ℕ) → b ≡ true → P x r → P (cond b x y) (cond b r s)
picks P b x y r s h a = subst (λ (v : Bool). P (cond v x y) (cond v r s)) (sym h) a

skips : (P : Position → ℕ → Type 0) (b : Bool) (x y : Position) (r s : ℕ) → b ≡ false → P y s → P (cond b x y) (cond b r s)
skips P b x y r s h a = subst (λ (v : Bool). P (cond v x y) (cond v r s)) (sym h) a

begins_meaning : (P : Position → ℕ → Type 0) (L : List Cell) (e : Position) (q : ℕ) → Each Solid L → Begins L q P → P (meaning L e q) (ranking L q)
begins_meaning P [] e q s b = absurd b
begins_meaning P (c ∷ L) e q s (inl b) = picks P (eqb q (total L)) c.means (meaning L e q) c.rank (ranking L q) (eq-eqb q (total L) b.0) b.1
begins_meaning P (c ∷ L) e q s (inr b) =
    let less = begins_below P L q s.1 b in
    skips P (eqb q (total L)) c.means (meaning L e q) c.rank (ranking L q) (ne_eqb q (total L) (λ z. omega arith)) (begins_meaning P L e q s.1 b)

pub end_meaning : (P : Position → ℕ → Type 0) (L : List Cell) (e : Position) (q : ℕ) → Each Solid L → total L ≤ q → P e 0 → P (meaning L e q) (ranking L q)
end_meaning P [] e q s h a = a
end_meaning P (c ∷ L) e q s h a =
    let size = s.0 in
    skips P (eqb q (total L)) c.means (meaning L e q) c.rank (ranking L q) (ne_eqb q (total L) (λ z. omega arith)) (end_meaning P L e q s.1 (omega arith) a)

pub means_meaning : (P : Position → ℕ → Type 0) (L : List Cell) (e : Position) (q : ℕ) → Each Solid L → Means L e q P → P (meaning L e q) (ranking L q)
means_meaning P L e q s (inl b) = begins_meaning P L e q s b
means_meaning P L e q s (inr b) = let h = b.0 in end_meaning P L e q s (omega arith) b.1

abbrev pub Anything : Position → ℕ → Type 0
Anything p r = Unit {0}

-- the cell that begins at an offset
pub cell_at : (P : Cell → ℕ → Type 0) (L : List Cell) (e : Position) (q : ℕ) → Each Solid L → Each P L → Begins L q Anything → (c : Cell) × P c q × (meaning L e q ≡ c.means) × (ranking L q ≡ c.rank)
cell_at P [] e q s a b = absurd b
cell_at P (c ∷ L) e q s a (inl b) =
    let h = eq-eqb q (total L) b.0 in
    let m : Bool → Position = λ v. cond v c.means (meaning L e q) in
    let r : Bool → ℕ = λ v. cond v c.rank (ranking L q) in
    (c, subst (λ (n : ℕ). P c n) (sym b.0) a.0, ap m h, ap r h)
cell_at P (c ∷ L) e q s a (inr b) =
    let less = begins_below Anything L q s.1 b in
    let h = ne_eqb q (total L) (λ z. omega arith) in
    let m : Bool → Position = λ v. cond v c.means (meaning L e q) in
    let r : Bool → ℕ = λ v. cond v c.rank (ranking L q) in
    let rest = cell_at P L e q s.1 a.1 b in
    (rest.0, rest.1, ap m h ∙ rest.2, ap r h ∙ rest.3)
