-- The cells of a layout: their offsets, and what stands at an offset.
use Rattle.std.proofs.Common.{◌≡◌, ℕ, ◌+◌, ◌<◌, ◌≤◌, ◌⊎◌, List, [], ◌∷◌, refl, ap, ◌∙◌, inl, inr, arith}
use Rattle.readings.specs.Draft.{Position}
use Rattle.readings.specs.Layout.{Cell, total, Each, SomeCell, Begins, Patches, patch_here, patch_there}

-- a cell begins at the offset, and its meaning and rank are so; or it is the end of the code, which means e
abbrev pub Means : List Cell → Position → ℕ → (Position → ℕ → Type 0) → Type 0
Means L e q P = Begins L q P ⊎ ((q ≡ total L) × P e 0)

abbrev pub Solid : Cell → ℕ → Type 0
Solid c q = 1 ≤ c.size

pub each_map : (P Q : Cell → ℕ → Type 0) → ((c : Cell) (q : ℕ) → P c q → Q c q) → (L : List Cell) → Each P L → Each Q L
each_map P Q f [] a = tt
each_map P Q f (c ∷ L) a = (f c (total L) a.0, each_map P Q f L a.1)

pub each_both : (P Q R : Cell → ℕ → Type 0) → ((c : Cell) (q : ℕ) → P c q → Q c q → R c q) → (L : List Cell) → Each P L → Each Q L → Each R L
each_both P Q R f [] a b = tt
each_both P Q R f (c ∷ L) a b = (f c (total L) a.0 b.0, each_both P Q R f L a.1 b.1)

pub begins_map : (P Q : Position → ℕ → Type 0) → ((p : Position) (r : ℕ) → P p r → Q p r) → (L : List Cell) (q : ℕ) → Begins L q P → Begins L q Q
begins_map P Q f [] q b = b
begins_map P Q f (c ∷ L) q (inl b) = inl (b.0, f c.means c.rank b.1)
begins_map P Q f (c ∷ L) q (inr b) = inr (begins_map P Q f L q b)

pub means_map : (P Q : Position → ℕ → Type 0) → ((p : Position) (r : ℕ) → P p r → Q p r) → (L : List Cell) (e : Position) (q : ℕ) → Means L e q P → Means L e q Q
means_map P Q f L e q (inl b) = inl (begins_map P Q f L q b)
means_map P Q f L e q (inr b) = inr (b.0, f e 0 b.1)

-- a cell begins before the end
pub begins_below : (P : Position → ℕ → Type 0) (L : List Cell) (q : ℕ) → Each Solid L → Begins L q P → q < total L
begins_below P [] q s b = absurd b
begins_below P (c ∷ L) q s (inl b) = let h = s.0 in let e = b.0 in omega arith
begins_below P (c ∷ L) q s (inr b) = let h = s.0 in let below = begins_below P L q s.1 b in omega arith

-- what stands at the end is the end
pub at_end : (P : Position → ℕ → Type 0) (L : List Cell) (e : Position) (q : ℕ) → q ≡ total L → Each Solid L → Means L e q P → P e 0
at_end P L e q h s (inl b) = let k = begins_below P L q s b in let z : ⊥ = omega arith in absurd z
at_end P L e q h s (inr b) = b.1

-- what stands where the newest cell begins is that cell
pub at_newest : (P : Position → ℕ → Type 0) (c : Cell) (L : List Cell) (e : Position) → Each Solid (c ∷ L) → Means (c ∷ L) e (total L) P → P c.means c.rank
at_newest P c L e s (inl (inl b)) = b.1
at_newest P c L e s (inl (inr b)) = let k = begins_below P L (total L) s.1 b in let z : ⊥ = omega arith in absurd z
at_newest P c L e s (inr b) = let h = s.0 in let k = b.0 in let z : ⊥ = omega arith in absurd z

-- patching keeps every cell where it is
pub patch_total : {b l q : ℕ} {L M : List Cell} → Patches b l q L M → total L ≡ total M
patch_total (patch_here f) = refl
patch_total (patch_there {c} w) = ap (λ n. n + c.size) (patch_total w)

pub patch_begins : (P : Position → ℕ → Type 0) {b l q : ℕ} {L M : List Cell} (n : ℕ) → Patches b l q L M → Begins L n P → Begins M n P
patch_begins P n (patch_here f) (inl x) = inl x
patch_begins P n (patch_here f) (inr x) = inr x
patch_begins P n (patch_there {c} w) (inl x) = inl (x.0 ∙ patch_total w, x.1)
patch_begins P n (patch_there {c} w) (inr x) = inr (patch_begins P n w x)

pub some_map : (P Q : Cell → ℕ → Type 0) → ((c : Cell) (n : ℕ) → P c n → Q c n) → (L : List Cell) → SomeCell P L → SomeCell Q L
some_map P Q f [] a = a
some_map P Q f (c ∷ L) (inl a) = inl (f c (total L) a)
some_map P Q f (c ∷ L) (inr a) = inr (some_map P Q f L a)

-- some cell, of which this holds, taken with what holds of each
pub some_each : (P Q : Cell → ℕ → Type 0) {A : Type 0} (L : List Cell) → ((c : Cell) (n : ℕ) → P c n → Q c n → A) → SomeCell P L → Each Q L → A
some_each P Q [] f s a = absurd s
some_each P Q (c ∷ L) f (inl s) a = f c (total L) s a.0
some_each P Q (c ∷ L) f (inr s) a = some_each P Q L f s a.1

-- a cell of this sort begins at q
abbrev pub CellAt : ℕ → (Cell → Type 0) → List Cell → Type 0
CellAt q B L = SomeCell (λ c n. (n ≡ q) × B c) L

cell_below : (B : Cell → Type 0) (q : ℕ) (L : List Cell) → Each Solid L → CellAt q B L → q < total L
cell_below B q [] s a = absurd a
cell_below B q (c ∷ L) s (inl a) = let size = s.0 in let h = a.0 in omega arith
cell_below B q (c ∷ L) s (inr a) = let h = cell_below B q L s.1 a in omega arith

-- at one offset there is one cell
pub one_cell : (B C : Cell → Type 0) (q : ℕ) (L : List Cell) → Each Solid L → CellAt q B L → CellAt q C L → (c : Cell) × B c × C c
one_cell B C q [] s a b = absurd a
one_cell B C q (c ∷ L) s (inl a) (inl b) = (c, a.1, b.1)
one_cell B C q (c ∷ L) s (inl a) (inr b) = let h = a.0 in let k = cell_below C q L s.1 b in let z : ⊥ = omega arith in absurd z
one_cell B C q (c ∷ L) s (inr a) (inl b) = let h = b.0 in let k = cell_below B q L s.1 a in let z : ⊥ = omega arith in absurd z
one_cell B C q (c ∷ L) s (inr a) (inr b) = one_cell B C q L s.1 a b

-- of each cell, with its place in the layout
pub each_placed : (P : Cell → ℕ → Type 0) (L : List Cell) → Each P L → Each (λ c q. P c q × CellAt q (λ x. x ≡ c) L) L
each_placed P L a = go L (λ c n s. s) a
  where
    go : (K : List Cell) → ((c : Cell) (n : ℕ) → CellAt n (λ x. x ≡ c) K → CellAt n (λ x. x ≡ c) L) → Each P K → Each (λ c q. P c q × CellAt q (λ x. x ≡ c) L) K
    go [] f b = tt
    go (c ∷ K) f b = ((b.0, f c (total K) (inl (refl, refl))), go K (λ x n s. f x n (inr s)) b.1)
