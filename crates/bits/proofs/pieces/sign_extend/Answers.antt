use Rattle.std.proofs.Common.{◌≡◌, ℕ, suc, ◌+◌, ◌-◌, ◌*◌, ◌%◌, ◌^◌, ◌<◌, ◌≤◌, ltb, pos, negsuc, ◌-ℤ◌, sym, ap, ◌∙◌, arith, pow_mono, pow-add, w64, to_z, of_z}
use Rattle.std.proofs.lemmas.Nat.{one_shl}
use Rattle.std.proofs.lemmas.Int.{ints}
use Rattle.std.proofs.lemmas.Bool.{lt-ltb, le-ltb, cond-true, cond-false}
use Rattle.bits.specs.Words.{signed}
use Rattle.bits.proofs.pieces.sign_extend.Goals as goal

double : (h : ℕ) → 2 ^ (h + 1) ≡ 2 * 2 ^ h
double h = pow-add 2 h 1 ∙ omega arith

low : (h : ℕ) → h < 32 → 2 ^ h ≤ 2147483648
low h l = pow_mono {i = h} {j = 31} (omega arith)

negative : (half x : ℕ) → half ≤ 2147483648 → half ≤ x → x < 2 * half → to_z w64 (of_z w64 (pos 0 -ℤ to_z w64 (2 * half - x))) ≡ negsuc (2 * half - suc x)
negative half x a b c = omega (arith, ints)

signed_high : (h x : ℕ) → 2 ^ h ≤ x → signed h x ≡ negsuc (2 * 2 ^ h - suc x)
unfolding signed
signed_high h x l = cond-false (ltb x (2 ^ h)) (pos x) (negsuc (2 ^ (h + 1) - suc x)) (le-ltb x (2 ^ h) l) ∙ ap (λ (n : ℕ). negsuc (n - suc x)) (double h)

positive : (half x : ℕ) → half ≤ 2147483648 → x < half → to_z w64 x ≡ pos x
positive half x a b = omega (arith, ints)

signed_low_half : (h x : ℕ) → x < 2 ^ h → signed h x ≡ pos x
unfolding signed
signed_low_half h x l = cond-true (ltb x (2 ^ h)) (pos x) (negsuc (2 ^ (h + 1) - suc x)) (lt-ltb x (2 ^ h) l)

pub returns-then-value-half-clause-value : goal.returns-then-value-half-clause-value
returns-then-value-half-clause-value c =
    let h = c.args.high in
    let x = c.args.value in
    let e : 1 * 2 ^ h % 18446744073709551616 ≡ 2 ^ h = one_shl h 64 (omega arith) in
    let b : x < 2 ^ h = omega (arith, e) in
    positive (2 ^ h) x (low h c.requires.high_bound) b ∙ sym (signed_low_half h x b)

pub returns-else-value-half-clause-value : goal.returns-else-value-half-clause-value
returns-else-value-half-clause-value c =
    let h = c.args.high in
    let x = c.args.value in
    let e : 1 * 2 ^ h % 18446744073709551616 ≡ 2 ^ h = one_shl h 64 (omega arith) in
    let b : 2 ^ h ≤ x = omega (arith, e) in
    let d = double h in
    rw e (negative (2 ^ h) x (low h c.requires.high_bound) b (omega (arith, d)) ∙ sym (signed_high h x b))
