-- Multiples of an alignment, and displacements between them.
use Rattle.std.proofs.Common.{◌≡◌, ℕ, zero, suc, ◌+◌, ◌-◌, ◌*◌, ◌/◌, ◌%◌, ◌^◌, ◌<◌, ◌≤◌, true, ltb, ap, ◌∙◌, mod-lt, arith, pow_pos}
use native.Mathlib.Nat.{add-mod, add-mod-mod, add-mod_right, mul-mod_right, zero-mod, div-add-mod, mod-eq-zero_of_dvd, dvd_of_mod-eq-zero, dvd-sub, dvd_trans}
use lib.IntN.{sub_ℕ}
use Rattle.std.proofs.lemmas.Bool.{ltb-true, cond_both}
use Rattle.std.proofs.lemmas.Int.{ints}
use Rattle.std.proofs.lemmas.Bool.Decides.{nat_tests}
use Rattle.isa.specs.Isa.{Isa, Reaches}
use Rattle.isa.specs.Laws.{Lawful}
use Rattle.model.specs.Code.{is_alignment, aligned}

pub sum_multiple : (x y a : ℕ) → x % a ≡ 0 → y % a ≡ 0 → (x + y) % a ≡ 0
sum_multiple x y a p q = rw (add-mod x y a, p, q) (zero-mod a)

pub difference_multiple : (x y a : ℕ) → x % a ≡ 0 → y % a ≡ 0 → (x - y) % a ≡ 0
difference_multiple x y a p q = mod-eq-zero_of_dvd a (dvd-sub a (dvd_of_mod-eq-zero a p) (dvd_of_mod-eq-zero a q))

-- a multiple of a multiple
pub multiple_of : (x n a : ℕ) → x % n ≡ 0 → n % a ≡ 0 → x % a ≡ 0
multiple_of x n a p q = mod-eq-zero_of_dvd a (dvd_trans a (dvd_of_mod-eq-zero a q) (dvd_of_mod-eq-zero n p))

-- the first multiple from an offset on
pub aligned_multiple : (n at : ℕ) → 0 < n → aligned n at % n ≡ 0
aligned_multiple n at h =
    let e : at + (n - at % n) ≡ n * (at / n) + n = omega (arith, div-add-mod at n, mod-lt at h) in
    add-mod-mod at (n - at % n) n ∙ ap (λ (x : ℕ). x % n) e ∙ add-mod_right (n * (at / n)) n ∙ mul-mod_right n (at / n)

-- the displacement from one offset to another that is near enough
pub reaches : (i : Isa) (k to from : ℕ) → to % i.align ≡ 0 → from % i.align ≡ 0 → to - from ≤ i.max_pos k → from - to ≤ i.max_neg k → Reaches i k (sub_ℕ to from)
reaches i k to from p q up down =
    cond_both (ltb to from) _ _ (Reaches i k)
    (λ e. let less : to < from = ltb-true _ _ e in
    let m : suc (from - suc to) ≡ from - to = omega arith in
    record { whole = rw m (difference_multiple from to i.align q p); up = omega (arith, ints); down = omega (arith, ints) })
    (λ e. record { whole = difference_multiple to from i.align p q; up = omega (arith, ints); down = omega (arith, ints) })

-- the alignment of a lawful set
pub some_alignment : (i : Isa) → Lawful i → 0 < i.align
some_alignment i y = let e = y.align_power in rw e.2 (pow_pos e.0)

power_multiple : (e n : ℕ) → e ≤ 3 → is_alignment n ≡ true → 2 ^ e ≤ n → n % 2 ^ e ≡ 0
power_multiple zero n b h l = grind (arith, nat_tests)
power_multiple (suc zero) n b h l = grind (arith, nat_tests)
power_multiple (suc (suc zero)) n b h l = grind (arith, nat_tests)
power_multiple (suc (suc (suc zero))) n b h l = grind (arith, nat_tests)
power_multiple (suc (suc (suc (suc e)))) n b h l = absurd (omega arith)

-- an alignment that a constant may have is a multiple of the set's
pub alignment_multiple : (i : Isa) (n : ℕ) → Lawful i → is_alignment n ≡ true → i.align ≤ n → n % i.align ≡ 0
alignment_multiple i n y h l = let e = y.align_power in rw e.2 (power_multiple e.0 n e.1 h (rw (← e.2) l))

pub some_is_alignment : (n : ℕ) → is_alignment n ≡ true → 0 < n
some_is_alignment n h = grind (arith, nat_tests)
