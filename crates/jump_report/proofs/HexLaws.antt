-- A text of hexadecimal pairs, and what the library reads of it.
use Rattle.std.proofs.Common.{◌≡◌, ℕ, suc, ◌+◌, ◌-◌, ◌*◌, ◌/◌, ◌%◌, ◌^◌, ◌<◌, true, false, ◌&&◌, List, [], ◌∷◌, ◌++◌, length, get_or, take, drop, Some, None, Ok, Err, Option, Result, sym, refl, ap, ◌∙◌, arith}
use Rattle.std.specs.Prelude.{is_some}
use Rattle.std.specs.Char.{is_ascii_hexdigit}
use Rattle.std.specs.List.{list_all}
use Rattle.std.specs.Result.{result_ok}
use Rattle.std.specs.Fmt.{digits, format_spec, padded_integral}
use Rattle.std.proofs.lemmas.Bool.Decides.{nat_tests}
use Rattle.std.proofs.lemmas.Fmt.{hex_byte}
use Rattle.std.proofs.lemmas.List.{take_more, take-append-drop}
use Rattle.std.proofs.lemmas.List.Folds.{list_all-append}
use Rattle.hex.specs.declared.error.FromHexError.{FromHexError}
use Rattle.hex.specs.Hex.{decode_of, decode_pairs, digit_or_error, hex_digit_value, ◌>>=◌}
use Rattle.jump_report.specs.Hex.{digit_value, paired, pair_value, followed, hex_bytes, digit_code, hex_text, Small}

followed_none : (o : Option ℕ) → followed o None ≡ None
followed_none None = refl
followed_none (Some x) = refl

-- a text of odd length writes no bytes
pub odd_none : (xs : List ℕ) → length xs % 2 ≡ 1 → hex_bytes xs ≡ None
odd_none [] h = absurd (omega arith)
odd_none (a ∷ []) h = refl
odd_none (a ∷ b ∷ xs) h =
    ap (followed (pair_value a b)) (odd_none xs (omega arith)) ∙ followed_none (pair_value a b)

same_digit : (c : ℕ) → digit_value c ≡ hex_digit_value c
same_digit c = grind (arith, nat_tests)

-- a pair and then some bytes, as the library puts them together
abbrev library_pair : ℕ → ℕ → ℕ → Option ℕ → Option ℕ → Result (List ℕ) FromHexError → Result (List ℕ) FromHexError
library_pair a b i o p r =
    (digit_or_error a i o >>= (λ x. digit_or_error b (i + 1) p >>= (λ y. Ok (x * 16 + y)))) >>= (λ byte. r >>= (λ bytes. Ok (byte ∷ bytes)))

same_pair : (a b i : ℕ) (o p : Option ℕ) (r : Result (List ℕ) FromHexError) → followed (paired o p) (result_ok r) ≡ result_ok (library_pair a b i o p r)
same_pair a b i None p r = refl
same_pair a b i (Some x) None r = refl
same_pair a b i (Some x) (Some y) (Err e) = refl
same_pair a b i (Some x) (Some y) (Ok bs) = ap (λ (n : ℕ). Some (n ∷ bs)) (omega arith)

same_pairs : (i : ℕ) (text : List ℕ) → hex_bytes text ≡ result_ok (decode_pairs i text)
unfolding decode_pairs
same_pairs i [] = refl
same_pairs i (a ∷ []) = refl
same_pairs i (a ∷ b ∷ rest) =
    ap (followed (pair_value a b)) (same_pairs (i + 2) rest)
    ∙ ap (λ (o : Option ℕ). followed (paired o (digit_value b)) (result_ok (decode_pairs (i + 2) rest))) (same_digit a)
    ∙ ap (λ (o : Option ℕ). followed (paired (hex_digit_value a) o) (result_ok (decode_pairs (i + 2) rest))) (same_digit b)
    ∙ same_pair a b i (hex_digit_value a) (hex_digit_value b) (decode_pairs (i + 2) rest)

-- the library decodes the bytes that a text writes
pub decoded : (text : List ℕ) → hex_bytes text ≡ result_ok (decode_of text)
decoded text =
    let odd : length text % 2 ≡ 1 → hex_bytes text ≡ None = odd_none text in
    let pairs = same_pairs 0 text in
    grind (arith, nat_tests)

-- a digit's value is the number that it writes
digit_back : (n : ℕ) → n < 16 → digit_value (digit_code n) ≡ Some n
digit_back n h = grind (arith, nat_tests)

pair_back : (b : ℕ) → b < 256 → pair_value (digit_code (b / 16)) (digit_code (b % 16)) ≡ Some b
pair_back b h =
    ap (λ (o : Option ℕ). paired o (digit_value (digit_code (b % 16)))) (digit_back (b / 16) (omega arith))
    ∙ ap (paired (Some (b / 16))) (digit_back (b % 16) (omega arith))
    ∙ ap (λ (n : ℕ). Some n) (omega arith)

-- the text of some bytes writes them
text_back : (bs : List ℕ) → Small bs → hex_bytes (hex_text bs) ≡ Some bs
text_back [] h = refl
text_back (b ∷ bs) h =
    ap (λ (o : Option ℕ). followed o (hex_bytes (hex_text bs))) (pair_back b (h 0)) ∙ ap (followed (Some b)) (text_back bs (λ k. h (suc k)))

some_ok : (r : Result (List ℕ) FromHexError) (bs : List ℕ) → result_ok r ≡ Some bs → r ≡ Ok bs
some_ok (Ok vs) bs e = ap Ok cc
some_ok (Err x) bs e = cc e

-- the library decodes the text of some bytes to them
pub decoded_text : (bs : List ℕ) → Small bs → decode_pairs 0 (hex_text bs) ≡ Ok bs
decoded_text bs small = some_ok _ bs (sym (same_pairs 0 (hex_text bs)) ∙ text_back bs small)

pub even_text : (bs : List ℕ) → length (hex_text bs) % 2 ≡ 0
even_text [] = refl
even_text (b ∷ bs) = omega (arith, even_text bs)

text_push : (xs : List ℕ) (x : ℕ) → hex_text (xs ++ (x ∷ [])) ≡ hex_text xs ++ (digit_code (x / 16) ∷ digit_code (x % 16) ∷ [])
text_push [] x = refl
text_push (y ∷ xs) x = ap (λ (l : List ℕ). digit_code (y / 16) ∷ digit_code (y % 16) ∷ l) (text_push xs x)

-- one byte more is printed
pub text_more : (xs : List ℕ) (i : ℕ) → i < length xs → get_or xs i 0 < 256
    → hex_text (take i xs) ++ padded_integral (format_spec 32 0 4 2 (2 ^ 64 - 1)) false [] (digits 16 false (get_or xs i 0)) ≡ hex_text (take (i + 1) xs)
text_more xs i inside small =
    ap (λ (s : List ℕ). hex_text (take i xs) ++ s) (hex_byte false (get_or xs i 0) small) ∙ sym (text_push (take i xs) (get_or xs i 0)) ∙ ap hex_text (sym (take_more xs i 0 inside))

-- a code has a value exactly where it is a digit
digit_has : (c : ℕ) → is_some (digit_value c) ≡ is_ascii_hexdigit c
digit_has c = grind (arith, nat_tests)

followed_has : (o p : Option ℕ) (r : Option (List ℕ)) → is_some (followed (paired o p) r) ≡ (is_some o && (is_some p && is_some r))
followed_has None p r = refl
followed_has (Some x) None r = refl
followed_has (Some x) (Some y) None = refl
followed_has (Some x) (Some y) (Some bs) = refl

-- two more codes write a byte exactly where both are digits
more_has : (a b : ℕ) (rest : List ℕ)
    → is_some (hex_bytes (a ∷ b ∷ rest)) ≡ (is_ascii_hexdigit a && (is_ascii_hexdigit b && is_some (hex_bytes rest)))
more_has a b rest =
    followed_has (digit_value a) (digit_value b) (hex_bytes rest)
    ∙ ap (λ v. v && (is_some (digit_value b) && is_some (hex_bytes rest))) (digit_has a)
    ∙ ap (λ v. is_ascii_hexdigit a && (v && is_some (hex_bytes rest))) (digit_has b)

-- a text of even length writes bytes exactly where it is digits throughout
pub even_digits : (text : List ℕ) → length text % 2 ≡ 0 → is_some (hex_bytes text) ≡ list_all is_ascii_hexdigit text
even_digits [] h = refl
even_digits (a ∷ []) h = absurd (omega arith)
even_digits (a ∷ b ∷ rest) h =
    more_has a b rest ∙ ap (λ v. is_ascii_hexdigit a && (is_ascii_hexdigit b && v)) (even_digits rest (omega arith))

-- digits of an even length write bytes
pub digits_write : (text : List ℕ) → list_all is_ascii_hexdigit text ≡ true → length text % 2 ≡ 0 → is_some (hex_bytes text) ≡ true
digits_write text d h = even_digits text h ∙ d

-- a text that writes bytes is digits throughout
pub digits_of : (text bs : List ℕ) → hex_bytes text ≡ Some bs → list_all is_ascii_hexdigit text ≡ true
digits_of text bs h =
    let odd : length text % 2 ≡ 1 → hex_bytes text ≡ None = odd_none text in
    let even : length text % 2 ≡ 0 → is_some (hex_bytes text) ≡ list_all is_ascii_hexdigit text = even_digits text in
    grind arith

none_unless : (o : Option (List ℕ)) → ((bs : List ℕ) → o ≡ Some bs → ⊥) → o ≡ None
none_unless None h = refl
none_unless (Some bs) h = absurd (h bs refl)

-- a text that is not digits throughout writes no bytes
pub not_digits : (text : List ℕ) → list_all is_ascii_hexdigit text ≡ false → hex_bytes text ≡ None
not_digits text h =
    none_unless (hex_bytes text) (λ bs e. let d : list_all is_ascii_hexdigit text ≡ true = digits_of text bs e in cc)

-- digits that write no bytes are of an odd length
pub odd_digits : (text : List ℕ) → list_all is_ascii_hexdigit text ≡ true → hex_bytes text ≡ None → length text % 2 ≡ 1
odd_digits text d h =
    let even : length text % 2 ≡ 0 → is_some (hex_bytes text) ≡ true = digits_write text d in
    grind arith

-- the text of some bytes is digits throughout
pub text_digits : (bs : List ℕ) → Small bs → list_all is_ascii_hexdigit (hex_text bs) ≡ true
text_digits bs small = digits_of (hex_text bs) bs (text_back bs small)

-- a list is digits throughout where its front and what comes behind it are
pub digits_parted : (n : ℕ) (xs : List ℕ) → list_all is_ascii_hexdigit xs ≡ (list_all is_ascii_hexdigit (take n xs) && list_all is_ascii_hexdigit (drop n xs))
digits_parted n xs = ap (list_all is_ascii_hexdigit) (sym (take-append-drop n xs)) ∙ list_all-append is_ascii_hexdigit (take n xs) (drop n xs)
