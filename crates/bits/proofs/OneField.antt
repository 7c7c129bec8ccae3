-- The laws of one field.
use Rattle.std.proofs.Common.{◌≡◌, ℕ, ◌+◌, ◌-◌, ◌*◌, ◌/◌, ◌%◌, ◌^◌, ◌<◌, ◌≤◌, sym, ap, ◌∙◌, subst, mod-eq_of_lt, mul_assoc, add-mul, add_comm, arith, pow_pos, pow_mono, pow-add, shl_lt, shr-shr, shr_lt}
use lib.Pow.{split, high, low, field, mod-pow-add, mod-mod-pow}
use lib.Arith.{digits_lt}
use lib.Bits.{bit_and, bit_or, and_mask, or_shifted}
use Rattle.std.proofs.lemmas.Nat.{mod_below, one_shl}
use Rattle.bits.specs.Fields.{get, put}

-- a field of w bits holds a number of w bits
pub get-lt : (lo w x : ℕ) → get lo w x < 2 ^ w
unfolding get
get-lt lo w x = mod_below (x / 2 ^ lo) (2 ^ w) (pow_pos w)

low_lt : (lo x : ℕ) → x % 2 ^ lo < 2 ^ lo
low_lt lo x = mod_below x (2 ^ lo) (pow_pos lo)

-- ---- a number in three parts: q above a field, v in it and l below

-- the upper part, moved in two steps
pub shifted : (lo w q : ℕ) → q * 2 ^ (lo + w) ≡ q * 2 ^ w * 2 ^ lo
shifted lo w q =
    ap (λ (n : ℕ). q * n) (ap (λ (n : ℕ). 2 ^ n) (add_comm lo w) ∙ pow-add 2 w lo)
    ∙ sym (mul_assoc q (2 ^ w) (2 ^ lo))

-- the two lower parts fit below the field's end
pub middle_lt : (lo w v l : ℕ) → v < 2 ^ w → l < 2 ^ lo → v * 2 ^ lo + l < 2 ^ (lo + w)
middle_lt lo w v l h k =
    subst (λ (n : ℕ). v * 2 ^ lo + l < n) (sym (pow-add 2 w lo) ∙ ap (λ (n : ℕ). 2 ^ n) (add_comm w lo))
    (digits_lt h k)

-- the two upper parts as one
upper : (lo w q v l : ℕ) → q * 2 ^ (lo + w) + (v * 2 ^ lo + l) ≡ (q * 2 ^ w + v) * 2 ^ lo + l
upper lo w q v l = omega (arith, shifted lo w q, add-mul (q * 2 ^ w) v (2 ^ lo))

-- the field holds the middle part
pub get_middle : (lo w q v l : ℕ) → v < 2 ^ w → l < 2 ^ lo → get lo w (q * 2 ^ (lo + w) + (v * 2 ^ lo + l)) ≡ v
unfolding get
get_middle lo w q v l h k =
    ap (λ (n : ℕ). n / 2 ^ lo % 2 ^ w) (upper lo w q v l)
    ∙ ap (λ (n : ℕ). n % 2 ^ w) (high (q * 2 ^ w + v) lo k) ∙ low q w h

-- ---- a value put in a field

-- what is above the field stays
put_high : (lo w x v : ℕ) → v < 2 ^ w → put lo w x v / 2 ^ (lo + w) ≡ x / 2 ^ (lo + w)
unfolding put
put_high lo w x v h = high (x / 2 ^ (lo + w)) (lo + w) (middle_lt lo w v (x % 2 ^ lo) h (low_lt lo x))

-- what is below the field stays
put_low : (lo w x v : ℕ) → put lo w x v % 2 ^ lo ≡ x % 2 ^ lo
unfolding put
put_low lo w x v =
    let q = x / 2 ^ (lo + w) in
    ap (λ (n : ℕ). n % 2 ^ lo) (upper lo w q v (x % 2 ^ lo)) ∙ low (q * 2 ^ w + v) lo (low_lt lo x)

-- a field holds what was put there
pub get-put : (lo w x v : ℕ) → v < 2 ^ w → get lo w (put lo w x v) ≡ v
unfolding put
get-put lo w x v h = get_middle lo w (x / 2 ^ (lo + w)) v (x % 2 ^ lo) h (low_lt lo x)

-- a field above is as it was
pub get_put_above : (lo w x v a k : ℕ) → v < 2 ^ w → lo + w ≤ a → get a k (put lo w x v) ≡ get a k x
unfolding get
get_put_above lo w x v a k h le =
    let j = a - (lo + w) in
    let e : lo + w + j ≡ a = omega arith in
    let over : (y : ℕ) → y / 2 ^ a ≡ y / 2 ^ (lo + w) / 2 ^ j =
    λ y. ap (λ (n : ℕ). y / 2 ^ n) (sym e) ∙ sym (shr-shr y (lo + w) j) in
    ap (λ (n : ℕ). n % 2 ^ k) (over _ ∙ ap (λ (n : ℕ). n / 2 ^ j) (put_high lo w x v h) ∙ sym (over x))

-- a field below is as it was
pub get_put_below : (lo w x v a k : ℕ) → a + k ≤ lo → get a k (put lo w x v) ≡ get a k x
unfolding get
get_put_below lo w x v a k le =
    let j = lo - (k + a) in
    let e : j + (k + a) ≡ lo = omega arith in
    let under : (y : ℕ) → y / 2 ^ a % 2 ^ k ≡ y % 2 ^ lo % 2 ^ (k + a) / 2 ^ a =
    λ y. sym (field y k a)
    ∙ ap (λ (n : ℕ). n / 2 ^ a) (sym (mod-mod-pow y j (k + a)) ∙ ap (λ (n : ℕ). y % 2 ^ n % 2 ^ (k + a)) e) in
    under _ ∙ ap (λ (n : ℕ). n % 2 ^ (k + a) / 2 ^ a) (put_low lo w x v) ∙ sym (under x)

-- a field of a field
pub get-get : (lo w a k x : ℕ) → a + k ≤ w → get a k (get lo w x) ≡ get (lo + a) k x
unfolding get
get-get lo w a k x le =
    let y = x / 2 ^ lo in
    let j = w - (k + a) in
    let e : j + (k + a) ≡ w = omega arith in
    sym (field (y % 2 ^ w) k a)
    ∙ ap (λ (n : ℕ). n / 2 ^ a) (ap (λ (n : ℕ). y % 2 ^ n % 2 ^ (k + a)) (sym e) ∙ mod-mod-pow y j (k + a))
    ∙ field y k a ∙ ap (λ (n : ℕ). n % 2 ^ k) (shr-shr x lo a)

-- a word of n bits stays one
pub put-fits : (n lo w x v : ℕ) → lo + w ≤ n → x < 2 ^ n → v < 2 ^ w → put lo w x v < 2 ^ n
unfolding put
put-fits n lo w x v le xl vl =
    let h = n - (lo + w) in
    let e : h + (lo + w) ≡ n = omega arith in
    let p : 2 ^ n ≡ 2 ^ h * 2 ^ (lo + w) = ap (λ (m : ℕ). 2 ^ m) (sym e) ∙ pow-add 2 h (lo + w) in
    let q : x / 2 ^ (lo + w) < 2 ^ h = shr_lt h (lo + w) (rw e xl) in
    rw p (digits_lt q (middle_lt lo w v (x % 2 ^ lo) vl (low_lt lo x)))

-- of two values put in one field the last counts
pub put-put : (lo w x u v : ℕ) → u < 2 ^ w → put lo w (put lo w x u) v ≡ put lo w x v
unfolding put
put-put lo w x u v h = rw (put_high lo w x u h, put_low lo w x u)

-- to put what a field holds changes nothing
pub put-get : (lo w x : ℕ) → put lo w x (get lo w x) ≡ x
unfolding put get
put-get lo w x =
    let m : x % 2 ^ (lo + w) ≡ (x / 2 ^ lo % 2 ^ w) * 2 ^ lo + x % 2 ^ lo =
    ap (λ (n : ℕ). x % 2 ^ n) (add_comm lo w) ∙ mod-pow-add x w lo in
    omega (arith, m, split x (lo + w))

-- ---- what the two functions compute

-- `put_field`: the part above the field, the value and the part below, joined by `|`
pub put_code : (lo w x v : ℕ) → lo + w ≤ 32 → x < 2 ^ 32 → v < 2 ^ w
    → bit_or (bit_or ((x / 2 ^ (lo + w) * 2 ^ (lo + w)) % 2 ^ 64) ((v * 2 ^ lo) % 2 ^ 64))
    (bit_and x ((1 * 2 ^ lo) % 2 ^ 64 - 1)) ≡ put lo w x v
unfolding put
put_code lo w x v le xl vl =
    let q = x / 2 ^ (lo + w) in
    let vs : v * 2 ^ lo < 2 ^ (lo + w) = subst (λ (n : ℕ). v * 2 ^ lo < 2 ^ n) (add_comm w lo) (shl_lt w lo vl) in
    let big : 2 ^ (lo + w) ≤ 2 ^ 32 = pow_mono le in
    let a : q * 2 ^ (lo + w) % 2 ^ 64 ≡ q * 2 ^ w * 2 ^ lo =
    mod-eq_of_lt (omega (arith, split x (lo + w))) ∙ shifted lo w q in
    let b : v * 2 ^ lo % 2 ^ 64 ≡ v * 2 ^ lo = mod-eq_of_lt (omega arith) in
    let c : bit_and x (1 * 2 ^ lo % 2 ^ 64 - 1) ≡ x % 2 ^ lo =
    ap (λ (n : ℕ). bit_and x (n - 1)) (one_shl lo 64 (omega arith)) ∙ and_mask x lo in
    let first : bit_or (q * 2 ^ w * 2 ^ lo) (v * 2 ^ lo) ≡ (q * 2 ^ w + v) * 2 ^ lo =
    ap (λ (n : ℕ). bit_or n (v * 2 ^ lo)) (sym (shifted lo w q)) ∙ or_shifted q (lo + w) (v * 2 ^ lo) vs
    ∙ ap (λ (n : ℕ). n + v * 2 ^ lo) (shifted lo w q) ∙ sym (add-mul (q * 2 ^ w) v (2 ^ lo)) in
    rw (a, b, c, first, or_shifted (q * 2 ^ w + v) lo (x % 2 ^ lo) (low_lt lo x)) (sym (upper lo w q v (x % 2 ^ lo)))

-- `get_field`: the word shifted down, and masked
pub get_code : (lo w x : ℕ) → w ≤ 32 → bit_and (x / 2 ^ lo) ((1 * 2 ^ w) % 2 ^ 64 - 1) ≡ get lo w x
unfolding get
get_code lo w x le =
    ap (λ (n : ℕ). bit_and (x / 2 ^ lo) (n - 1)) (one_shl w 64 (omega arith)) ∙ and_mask (x / 2 ^ lo) w
