-- The offsets that the cells of a layout speak of, and how far its fixed targets go.
use Rattle.std.proofs.Common.{ℕ, ◌+◌, ◌≤◌, List, [], ◌∷◌, arith}
use Rattle.isa.specs.declared.jumps.Role.TheVariants.{Unconditional, Conditional}
use Rattle.readings.specs.Layout.{Target, waits, fixed, Body, bytes, refers, jump, veneer, kept, blank, Cell, total, Each, Fixes, in_piece, in_branch, in_veneer, Patches, patch_here, patch_there}
use Rattle.readings.proofs.Cells.{each_map}

-- the offsets that a cell speaks of
abbrev pub TargetIn : (ℕ → Type 0) → Target → Type 0
TargetIn S (waits l) = Unit {0}
TargetIn S (fixed q) = S q

abbrev pub BodyIn : (ℕ → Type 0) → Body → ℕ → Type 0
BodyIn S bytes end = S end
BodyIn S (refers c l x) end = S end × TargetIn S x
BodyIn S (jump Unconditional x) end = TargetIn S x
BodyIn S (jump (Conditional c s) x) end = S end × TargetIn S x
BodyIn S (veneer c x) end = TargetIn S x
BodyIn S (kept l) end = Unit {0}
BodyIn S blank end = Unit {0}

abbrev pub CellIn : (ℕ → Type 0) → Cell → ℕ → Type 0
CellIn S c q = BodyIn S c.body (q + c.size)

abbrev pub Anywhere : ℕ → Type 0
Anywhere q = Unit {0}

target_anywhere : (x : Target) → TargetIn Anywhere x
target_anywhere (waits l) = tt
target_anywhere (fixed q) = tt

pub body_anywhere : (b : Body) (end : ℕ) → BodyIn Anywhere b end
body_anywhere bytes end = tt
body_anywhere (refers c l x) end = (tt, target_anywhere x)
body_anywhere (jump Unconditional x) end = target_anywhere x
body_anywhere (jump (Conditional c s) x) end = (tt, target_anywhere x)
body_anywhere (veneer c x) end = target_anywhere x
body_anywhere (kept l) end = tt
body_anywhere blank end = tt

-- the fixed target of a body, if it has one, is no further than n
abbrev pub FixedWithin : ℕ → Body → Type 0
FixedWithin n bytes = Unit {0}
FixedWithin n (refers c l x) = TargetIn (λ q. q ≤ n) x
FixedWithin n (jump ρ x) = TargetIn (λ q. q ≤ n) x
FixedWithin n (veneer c x) = TargetIn (λ q. q ≤ n) x
FixedWithin n (kept l) = Unit {0}
FixedWithin n blank = Unit {0}

abbrev pub AllFixedWithin : ℕ → List Cell → Type 0
AllFixedWithin n L = Each (λ c q. FixedWithin n c.body) L

target_up : (n m : ℕ) (x : Target) → n ≤ m → TargetIn (λ q. q ≤ n) x → TargetIn (λ q. q ≤ m) x
target_up n m (waits l) h s = tt
target_up n m (fixed q) h s = omega arith

fixed_up : (n m : ℕ) (b : Body) → n ≤ m → FixedWithin n b → FixedWithin m b
fixed_up n m bytes h s = tt
fixed_up n m (refers c l x) h s = target_up n m x h s
fixed_up n m (jump ρ x) h s = target_up n m x h s
fixed_up n m (veneer c x) h s = target_up n m x h s
fixed_up n m (kept l) h s = tt
fixed_up n m blank h s = tt

pub all_fixed_up : (n m : ℕ) (L : List Cell) → n ≤ m → AllFixedWithin n L → AllFixedWithin m L
all_fixed_up n m L h s = each_map (λ c q. FixedWithin n c.body) (λ c q. FixedWithin m c.body) (λ c q a. fixed_up n m c.body h a) L s

fixed_in : (n : ℕ) (b : Body) (end : ℕ) → end ≤ n → FixedWithin n b → BodyIn (λ q. q ≤ n) b end
fixed_in n bytes end h s = h
fixed_in n (refers c l x) end h s = (h, s)
fixed_in n (jump Unconditional x) end h s = s
fixed_in n (jump (Conditional c t) x) end h s = (h, s)
fixed_in n (veneer c x) end h s = s
fixed_in n (kept l) end h s = tt
fixed_in n blank end h s = tt

-- where neither a fixed target nor the end is beyond n, the cells speak of nothing beyond n
pub cells_in : (n : ℕ) (L : List Cell) → total L ≤ n → AllFixedWithin n L → Each (CellIn (λ q. q ≤ n)) L
cells_in n [] h s = tt
cells_in n (c ∷ L) h s = (fixed_in n c.body (total L + c.size) h s.0, cells_in n L (omega arith) s.1)

fixes_within : {b l q r : ℕ} {x y : Body} (n : ℕ) → q ≤ n → Fixes b l q r x y → FixedWithin n y
fixes_within n h in_piece = h
fixes_within n h in_branch = h
fixes_within n h (in_veneer k) = h

-- patching to q
pub patch_within : {b l q : ℕ} {L M : List Cell} (n m : ℕ) → n ≤ m → q ≤ m → Patches b l q L M → AllFixedWithin n L → AllFixedWithin m M
patch_within n m h k (patch_here {L = L} f) s = (fixes_within m k f, all_fixed_up n m L h s.1)
patch_within n m h k (patch_there {c} w) s = (fixed_up n m c.body h s.0, patch_within n m h k w s.1)
