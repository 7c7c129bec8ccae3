-- Words as bytes, and numbers in two's complement.
use Rattle.std.proofs.Common.{◌≡◌, ℕ, zero, suc, ◌+◌, ◌-◌, ◌*◌, ◌/◌, ◌%◌, ◌^◌, ◌<◌, ◌≤◌, Bool, true, ◌&&◌, T, ltb, List, [], ◌∷◌, length, ℤ, pos, negsuc, nat_abs, sym, refl, ap, ◌∙◌, subst, mod-eq_of_lt, mul_comm, arith, ltb→lt, pow_pos, pow-add, w32, of_z}
use native.Mathlib.Nat.{mul-mod_right, mul-sub, mod-mod}
use lib.Signed.{mag}
use lib.Pow.{split, mod-pow-add, not_mod}
use Rattle.std.proofs.lemmas.Nat.{mod_below}
use Rattle.bits.proofs.Scattered.{and_left, and_right}
use Rattle.bits.specs.Words.{value, word, to_bytes, Octets, signed}

-- a word of n bytes is a number of 8 * n bits
pub word_fits : (n : ℕ) (b : List ℕ) → word n b < 2 ^ (8 * n)
unfolding word
word_fits n b = mod_below (value b) (2 ^ (8 * n)) (pow_pos (8 * n))

-- one byte more is eight bits more
pow_byte : (n : ℕ) → 2 ^ (8 * suc n) ≡ 2 ^ (8 * n) * 256
pow_byte n = ap (λ (m : ℕ). 2 ^ m) (omega arith) ∙ pow-add 2 (8 * n) 8

-- n bytes of a number hold its low 8 * n bits
value-to_bytes : (n x : ℕ) → value (to_bytes n x) ≡ x % 2 ^ (8 * n)
value-to_bytes zero x = omega arith
value-to_bytes (suc n) x =
    let m : x % 2 ^ (8 * suc n) ≡ (x / 256 % 2 ^ (8 * n)) * 256 + x % 256 =
    ap (λ (k : ℕ). x % 2 ^ k) (omega arith) ∙ mod-pow-add x (8 * n) 8 in
    omega (arith, m, value-to_bytes n (x / 256))

-- the bytes of a word hold the word
pub word-to_bytes : (n x : ℕ) → x < 2 ^ (8 * n) → word n (to_bytes n x) ≡ x
unfolding word
word-to_bytes n x h = rw (value-to_bytes n x, mod-mod x (2 ^ (8 * n))) (mod-eq_of_lt h)

-- the bytes of a word are n, and each is a byte
pub length-to_bytes : (n x : ℕ) → length (to_bytes n x) ≡ n
length-to_bytes zero x = refl
length-to_bytes (suc n) x = ap suc (length-to_bytes n (x / 256))

pub octets_to_bytes : (n x : ℕ) → Octets (to_bytes n x)
octets_to_bytes zero x i = omega arith
octets_to_bytes (suc n) x zero = mod_below x 256 (omega arith)
octets_to_bytes (suc n) x (suc i) = octets_to_bytes n (x / 256) i

-- a list of bytes that is written out
abbrev pub are_octets : List ℕ → Bool
are_octets [] = true
are_octets (x ∷ xs) = ltb x 256 && are_octets xs

pub octets : (b : List ℕ) → T (are_octets b) → Octets b
octets [] t i = omega arith
octets (x ∷ xs) t zero = ltb→lt x 256 (and_left _ _ t)
octets (x ∷ xs) t (suc i) = octets xs (and_right (ltb x 256) _ t) i

-- n bytes hold a number of 8 * n bits
value-lt : (n : ℕ) (b : List ℕ) → length b ≡ n → Octets b → value b < 2 ^ (8 * n)
value-lt zero [] l o = omega arith
value-lt zero (x ∷ b) l o = omega arith
value-lt (suc n) [] l o = omega arith
value-lt (suc n) (x ∷ b) l o = omega (arith, o 0, value-lt n b (omega arith) (λ i. o (suc i)), pow_byte n)

-- n bytes are those of their value
to_bytes-value : (n : ℕ) (b : List ℕ) → length b ≡ n → Octets b → to_bytes n (value b) ≡ b
to_bytes-value zero [] l o = refl
to_bytes-value zero (x ∷ b) l o = absurd (omega arith)
to_bytes-value (suc n) [] l o = absurd (omega arith)
to_bytes-value (suc n) (x ∷ b) l o =
    let low : (x + 256 * value b) % 256 ≡ x = omega (arith, o 0) in
    let high : (x + 256 * value b) / 256 ≡ value b = omega (arith, o 0) in
    rw (low, high, to_bytes-value n b (omega arith) (λ i. o (suc i)))

-- n bytes are those of the word that they hold
pub to_bytes-word : (n : ℕ) (b : List ℕ) → length b ≡ n → Octets b → to_bytes n (word n b) ≡ b
unfolding word
to_bytes-word n b l o = ap (to_bytes n) (mod-eq_of_lt (value-lt n b l o)) ∙ to_bytes-value n b l o

-- the low h + 1 bits of a number that fits them read as the number
pub signed_low : (h : ℕ) (d : ℤ) → h < 32 → mag d < 2 ^ h → signed h (of_z w32 d % 2 ^ (h + 1)) ≡ d
unfolding signed
signed_low h (pos n) le m =
    let p : 2 ^ (h + 1) ≡ 2 ^ h * 2 = pow-add 2 h 1 in
    let k : n % 2 ^ (h + 1) ≡ n = mod-eq_of_lt (omega arith) in
    rw k (grind arith)
signed_low h (negsuc n) le m =
    let p : 2 ^ (h + 1) ≡ 2 ^ h * 2 = pow-add 2 h 1 in
    let j = 32 - (h + 1) in
    let w : j + (h + 1) ≡ 32 = omega arith in
    let nl : n < 2 ^ (h + 1) = omega arith in
    let c : (2 ^ 32 - 1 - n) % 2 ^ (h + 1) ≡ 2 ^ (h + 1) - 1 - n =
    subst (λ (x : ℕ). (2 ^ x - 1 - n) % 2 ^ (h + 1) ≡ 2 ^ (h + 1) - 1 - n) w (not_mod j (h + 1) nl) in
    let k : (2 ^ 32 - suc n) % 2 ^ (h + 1) ≡ 2 ^ (h + 1) - suc n =
    ap (λ (x : ℕ). x % 2 ^ (h + 1)) (omega arith) ∙ c ∙ omega arith in
    rw k (grind arith)

-- numbers of h + 1 bits that read alike are equal
pub signed_same : (h x y : ℕ) → x < 2 ^ (h + 1) → y < 2 ^ (h + 1) → signed h x ≡ signed h y → x ≡ y
unfolding signed
signed_same h x y xl yl e = grind arith

-- a displacement that is a multiple of 2 ^ e has bits that are
pub bits_whole : (e : ℕ) (d : ℤ) → e ≤ 32 → mag d < 2 ^ 31 → nat_abs d % 2 ^ e ≡ 0 → of_z w32 d % 2 ^ e ≡ 0
bits_whole e (pos n) le m z = z
bits_whole e (negsuc n) le m z =
    let j = 32 - e in
    let s : j + e ≡ 32 = omega arith in
    let q = suc n / 2 ^ e in
    let p : 2 ^ 32 ≡ 2 ^ j * 2 ^ e = ap (λ (x : ℕ). 2 ^ x) (sym s) ∙ pow-add 2 j e in
    let r : suc n ≡ q * 2 ^ e = omega (arith, split (suc n) e, z) in
    let t : 2 ^ 32 - suc n ≡ 2 ^ e * (2 ^ j - q) =
    omega (arith, mul-sub (2 ^ e) (2 ^ j) q, mul_comm (2 ^ e) (2 ^ j), mul_comm (2 ^ e) q, p, r) in
    ap (λ (x : ℕ). x % 2 ^ e) t ∙ mul-mod_right (2 ^ e) (2 ^ j - q)

-- the bits of a displacement fit a word
pub bits_fit : (d : ℤ) → mag d < 2 ^ 31 → of_z w32 d < 2 ^ 32
bits_fit (pos n) m = omega arith
bits_fit (negsuc n) m = omega arith
