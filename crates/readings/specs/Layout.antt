-- The layout of the code: its cells, newest first, each with the position of the draft that it stands for. It exists in proofs
-- only.
use Rattle.std.specs.Prelude.{◌≡◌, ℕ, ◌+◌, ◌<◌, ◌⊎◌, List, [], ◌∷◌, ◌≢◌}
use Rattle.isa.specs.declared.jumps.Role.{Role}
use Rattle.readings.specs.Draft.{Position}

-- where a use leads: it waits for a label, or is fixed to an offset
pub data Target : Type 0 where
  waits : ℕ → Target
  fixed : ℕ → Target

-- a piece; a piece with a use, of a kind and a label; a branch; a veneer for a kind; a trap or constant with its label; bytes that
-- nothing enters
pub data Body : Type 0 where
  bytes : Body
  refers : ℕ → ℕ → Target → Body
  jump : Role → Target → Body
  veneer : ℕ → Target → Body
  kept : ℕ → Body
  blank : Body

-- the rank is 0 but for a veneer; veneers lead to lower ranks
pub record Cell : Type 0 where
  pub size : ℕ
  pub means : Position
  pub rank : ℕ
  pub body : Body

abbrev pub cell : ℕ → Position → ℕ → Body → Cell
cell k p r b = record { size = k; means = p; rank = r; body = b }

abbrev pub total : List Cell → ℕ
total [] = 0
total (c ∷ L) = total L + c.size

-- of each cell, with its offset
abbrev pub Each : (Cell → ℕ → Type 0) → List Cell → Type 0
Each P [] = Unit {0}
Each P (c ∷ L) = P c (total L) × Each P L

-- of some cell, with its offset
abbrev pub SomeCell : (Cell → ℕ → Type 0) → List Cell → Type 0
SomeCell P [] = ⊥
SomeCell P (c ∷ L) = P c (total L) ⊎ SomeCell P L

-- a cell begins at the offset, and its meaning and rank are so
abbrev pub Begins : List Cell → ℕ → (Position → ℕ → Type 0) → Type 0
Begins [] q P = ⊥
Begins (c ∷ L) q P = ((q ≡ total L) × P c.means c.rank) ⊎ Begins L q P

-- what the table says of a label
pub data Entry : Type 0 where
  free : Entry
  stands : ℕ → Entry
  alias : ℕ → Entry

abbrev pub Labels : Type 0
Labels = ℕ → Entry

pub data Resolves (T : Labels) : ℕ → ℕ → Type 0 where
  found : {l q : ℕ} → T l ≡ stands q → Resolves T l q
  through : {l m q : ℕ} → T l ≡ alias m → Resolves T m q → Resolves T l q

-- the target of a waiting use is fixed; of a veneer only where its rank is above b
pub data Fixes (b l q : ℕ) : ℕ → Body → Body → Type 0 where
  in_piece : {c m r : ℕ} → Fixes b l q r (refers c m (waits l)) (refers c m (fixed q))
  in_branch : {ρ : Role} {r : ℕ} → Fixes b l q r (jump ρ (waits l)) (jump ρ (fixed q))
  in_veneer : {c r : ℕ} → b < r → Fixes b l q r (veneer c (waits l)) (veneer c (fixed q))

-- a use that waits for a label is patched to the offset q
pub data Patches (b l q : ℕ) : List Cell → List Cell → Type 0 where
  patch_here : {k r : ℕ} {p : Position} {x y : Body} {L : List Cell} → Fixes b l q r x y → Patches b l q (cell k p r x ∷ L) (cell k p r y ∷ L)
  patch_there : {c : Cell} {L M : List Cell} → Patches b l q L M → Patches b l q (c ∷ L) (c ∷ M)

-- the table U is T, with a label placed at q
abbrev pub Places : Labels → Labels → ℕ → ℕ → Type 0
Places T U l q = (U l ≡ stands q) × ((m : ℕ) → (m ≡ l) ⊎ (U m ≡ T m))

-- U is T, with the labels at s moved to q
abbrev pub Shifts : Labels → Labels → ℕ → ℕ → Type 0
Shifts T U s q = (m : ℕ) → ((U m ≡ T m) × (T m ≢ stands s)) ⊎ ((T m ≡ stands s) × (U m ≡ stands q))

-- U is T, with labels at s made aliases of l
abbrev pub Renames : Labels → Labels → ℕ → ℕ → Type 0
Renames T U s l = (m : ℕ) → (U m ≡ T m) ⊎ ((T m ≡ stands s) × (U m ≡ alias l))

-- no label at s
abbrev pub Bare : Labels → ℕ → Type 0
Bare T s = (m : ℕ) → T m ≢ stands s
