-- Digits, and the numbers that they are.
use Rattle.std.proofs.Common.{◌≡◌, ◌<◌, ◌≤◌, ◌+◌, ◌-◌, ◌*◌, ◌/◌, ◌%◌, ◌^◌, ◌&&◌, ℕ, List, [], ◌∷◌, length, map}
use Rattle.std.proofs.Common.{true, cond, if◌then◌else◌, nat_lt, nat_le, refl, sym, ap, ◌∙◌, subst, arith}
use Rattle.std.proofs.Common.{inl, inr, le-leb, lt-ltb, ltb-true, Some, None, Result, Ok, Err, OkIff}
use Rattle.std.proofs.Common.{IsAscii, IsUtf8, decimal}
use Rattle.std.specs.List.{list_all, slice_index_or}
use Rattle.std.specs.Int.Digits.{number_from_digits}
use Rattle.std.specs.Str.{all_ascii_digits}
use Rattle.std.specs.Str.Parse.{digits_value, without_leading_plus, ParsesUnsigned}
use Rattle.std.proofs.lemmas.Bool.{and_from, and_parts, and_right, cases_eq, cases_lt, cond-false, cond-true}
use Rattle.std.proofs.lemmas.Bool.{false_from_ne_true, lt-leb}
use Rattle.std.proofs.lemmas.Fmt.{decimal_is_IsNumeral, digits_decimal, digits_value-decimal, IsAscii-from_digits}
use Rattle.std.proofs.lemmas.Str.{IsUtf8-from_ascii}
use Rattle.std.proofs.lemmas.Str.Ascii.{IsAscii-cons, IsAscii-nil}
use Rattle.std.proofs.lemmas.Str.Parse.{digit_at, IsNumeralModel, numerals_by_value, parse_plain, parse_plus}
use Rattle.std.proofs.lemmas.Str.Parse.{tells_all_ascii_digits, without_leading_plus_none, without_leading_plus_plus}
use Rattle.map_text.specs.Text.{address_text, digit}
use Rattle.map_text.specs.Reading.{address_in, address_of, digit_value, number_in, numeral}

-- Addresses

pub low_digit : (b : ℕ) → 48 ≤ b → b ≤ 57 → digit_value b ≡ b - 48
low_digit b low high =
    cond-true (nat_le 48 b && nat_le b 57) (b - 48) (cond (nat_le 65 b && nat_le b 70) (b - 55) 16)
    (and_from (nat_le 48 b) (nat_le b 57) (le-leb 48 b low) (le-leb b 57 high))

pub high_digit : (b : ℕ) → 65 ≤ b → b ≤ 70 → digit_value b ≡ b - 55
high_digit b low high =
    cond-false (nat_le 48 b && nat_le b 57) (b - 48) (cond (nat_le 65 b && nat_le b 70) (b - 55) 16)
    (and_right (nat_le 48 b) (nat_le b 57) (lt-leb b 57 (omega (arith, low))))
    ∙ cond-true (nat_le 65 b && nat_le b 70) (b - 55) 16
    (and_from (nat_le 65 b) (nat_le b 70) (le-leb 65 b low) (le-leb b 70 high))

digit_value_of : (n : ℕ) → n < 16 → digit_value (digit n) ≡ n
digit_value_of n lt = elim (cases_lt n 10) [
  | inl low ↦ low_digit (digit n) (omega (arith, low)) (omega (arith, low)) ∙ omega (arith, low)
  | inr high ↦ high_digit (digit n) (omega (arith, high, lt)) (omega (arith, high, lt)) ∙ omega (arith, high, lt)
]

pub address_is : (a b c d e : ℕ) → a < 16 → b < 16 → c < 16 → d < 16 → e < 16
    → address_of (a ∷ b ∷ c ∷ d ∷ e ∷ []) ≡ Some (a * 65536 + b * 4096 + c * 256 + d * 16 + e)
address_is a b c d e la lb lc ld le =
    let test : list_all (λ v. nat_lt v 16) (a ∷ b ∷ c ∷ d ∷ e ∷ []) ≡ true =
    and_from (nat_lt a 16) (list_all (λ v. nat_lt v 16) (b ∷ c ∷ d ∷ e ∷ [])) (lt-ltb a 16 la)
    (and_from (nat_lt b 16) (list_all (λ v. nat_lt v 16) (c ∷ d ∷ e ∷ [])) (lt-ltb b 16 lb)
    (and_from (nat_lt c 16) (list_all (λ v. nat_lt v 16) (d ∷ e ∷ [])) (lt-ltb c 16 lc)
    (and_from (nat_lt d 16) (list_all (λ v. nat_lt v 16) (e ∷ [])) (lt-ltb d 16 ld)
    (and_from (nat_lt e 16) true (lt-ltb e 16 le) refl)))) in
    let sum : number_from_digits 16 (a ∷ b ∷ c ∷ d ∷ e ∷ []) ≡ a * 65536 + b * 4096 + c * 256 + d * 16 + e =
    omega arith in
    ap (λ t. if t then Some (number_from_digits 16 (a ∷ b ∷ c ∷ d ∷ e ∷ [])) else None) test
    ∙ ap (λ (n : ℕ). Some n) sum

-- one of five digits is none
pub bad_digits : (a b c d e : ℕ) → (a < 16 → b < 16 → c < 16 → d < 16 → e < 16 → ⊥)
    → address_of (a ∷ b ∷ c ∷ d ∷ e ∷ []) ≡ None
bad_digits a b c d e bad =
    ap (λ t. if t then Some (number_from_digits 16 (a ∷ b ∷ c ∷ d ∷ e ∷ [])) else None)
    (false_from_ne_true (list_all (λ v. nat_lt v 16) (a ∷ b ∷ c ∷ d ∷ e ∷ [])) (λ all.
    let one = and_parts (nat_lt a 16) (list_all (λ v. nat_lt v 16) (b ∷ c ∷ d ∷ e ∷ [])) all in
    let two = and_parts (nat_lt b 16) (list_all (λ v. nat_lt v 16) (c ∷ d ∷ e ∷ [])) one.1 in
    let three = and_parts (nat_lt c 16) (list_all (λ v. nat_lt v 16) (d ∷ e ∷ [])) two.1 in
    let four = and_parts (nat_lt d 16) (list_all (λ v. nat_lt v 16) (e ∷ [])) three.1 in
    let five = and_parts (nat_lt e 16) true four.1 in
    bad (ltb-true a 16 one.0) (ltb-true b 16 two.0) (ltb-true c 16 three.0) (ltb-true d 16 four.0)
    (ltb-true e 16 five.0)))

pub five_digits : (bytes : List ℕ) → length bytes ≡ 5 → map digit_value bytes
    ≡ digit_value (slice_index_or bytes 0 0) ∷ digit_value (slice_index_or bytes 1 0)
    ∷ digit_value (slice_index_or bytes 2 0) ∷ digit_value (slice_index_or bytes 3 0)
    ∷ digit_value (slice_index_or bytes 4 0) ∷ []
five_digits (a ∷ b ∷ c ∷ d ∷ e ∷ []) is = refl
five_digits bytes is = absurd (omega (arith, is))

pub address_of_text : (a : ℕ) → a < 2 ^ 20 → address_in (address_text a) ≡ Some a
address_of_text a lt =
    let one = digit_value_of (a / 65536 % 16) (omega arith) in
    let two = digit_value_of (a / 4096 % 16) (omega arith) in
    let three = digit_value_of (a / 256 % 16) (omega arith) in
    let four = digit_value_of (a / 16 % 16) (omega arith) in
    let five = digit_value_of (a % 16) (omega arith) in
    let values : map digit_value (address_text a)
    ≡ a / 65536 % 16 ∷ a / 4096 % 16 ∷ a / 256 % 16 ∷ a / 16 % 16 ∷ a % 16 ∷ [] = cc in
    let sum : a / 65536 % 16 * 65536 + a / 4096 % 16 * 4096 + a / 256 % 16 * 256 + a / 16 % 16 * 16 + a % 16 ≡ a =
    omega (arith, lt) in
    ap address_of values
    ∙ address_is (a / 65536 % 16) (a / 4096 % 16) (a / 256 % 16) (a / 16 % 16) (a % 16) (omega arith) (omega arith)
    (omega arith) (omega arith) (omega arith)
    ∙ ap (λ (n : ℕ). Some n) sum

-- Numbers of lines

own : IsNumeralModel (λ ds. all_ascii_digits ds ≡ true) (digits_value 10)
own = numerals_by_value (λ ds. all_ascii_digits ds ≡ true) tells_all_ascii_digits

abbrev pub IsNumber : List ℕ → Type 0
IsNumber ds = (all_ascii_digits ds ≡ true) × (0 < length ds) × (digits_value 10 ds < 2 ^ 64)

is_some : (ds : List ℕ) → IsNumber ds → numeral ds ≡ Some (digits_value 10 ds)
is_some ds is =
    cond-true (nat_lt 0 (length ds) && all_ascii_digits ds && nat_lt (digits_value 10 ds) (2 ^ 64))
    (Some (digits_value 10 ds)) None
    (and_from (nat_lt 0 (length ds) && all_ascii_digits ds) (nat_lt (digits_value 10 ds) (2 ^ 64))
    (and_from (nat_lt 0 (length ds)) (all_ascii_digits ds) (lt-ltb 0 (length ds) is.1) is.0)
    (lt-ltb (digits_value 10 ds) (2 ^ 64) is.2))

is_none : (ds : List ℕ) → (IsNumber ds → ⊥) → numeral ds ≡ None
is_none ds bad =
    cond-false (nat_lt 0 (length ds) && all_ascii_digits ds && nat_lt (digits_value 10 ds) (2 ^ 64))
    (Some (digits_value 10 ds)) None
    (false_from_ne_true (nat_lt 0 (length ds) && all_ascii_digits ds && nat_lt (digits_value 10 ds) (2 ^ 64)) (λ e.
    let p = and_parts (nat_lt 0 (length ds) && all_ascii_digits ds) (nat_lt (digits_value 10 ds) (2 ^ 64)) e in
    let q = and_parts (nat_lt 0 (length ds)) (all_ascii_digits ds) p.0 in
    bad (q.1, ltb-true 0 (length ds) q.0, ltb-true (digits_value 10 ds) (2 ^ 64) p.1)))

parsed : {E : Type 0} (text : List ℕ) (r : Result ℕ E) → ParsesUnsigned 64 10 text r
    → OkIff r (IsNumber (without_leading_plus text)) (digits_value 10 (without_leading_plus text))
parsed text r h = elim (cases_eq (slice_index_or text 0 0) 43) [
  | inl plus ↦ subst (λ (t : List ℕ). OkIff r (IsNumber t) (digits_value 10 t))
      (sym (without_leading_plus_plus text plus)) (parse_plus own 64 text r h plus)
  | inr plain ↦ subst (λ (t : List ℕ). OkIff r (IsNumber t) (digits_value 10 t))
      (sym (without_leading_plus_none text plain)) (parse_plain own 64 text r h plain)
]

pub number_parsed : {E : Type 0} (text bytes : List ℕ) (r : Result ℕ E) (n : ℕ) → text ≡ bytes
    → ParsesUnsigned 64 10 text r → r ≡ Ok n → Some n ≡ number_in bytes
number_parsed {E} text bytes r n same h ok =
    let digits = without_leading_plus text in
    let is = subst (λ (r : Result ℕ E). OkIff r (IsNumber digits) (digits_value 10 digits)) ok (parsed text r h) in
    ap (λ (n : ℕ). Some n) is.1 ∙ sym (is_some digits is.0) ∙ ap number_in same

pub number_refused : {E : Type 0} (text bytes : List ℕ) (r : Result ℕ E) (e : E) → text ≡ bytes
    → ParsesUnsigned 64 10 text r → r ≡ Err e → None ≡ number_in bytes
number_refused {E} text bytes r e same h err =
    let digits = without_leading_plus text in
    let is = subst (λ (r : Result ℕ E). OkIff r (IsNumber digits) (digits_value 10 digits)) err (parsed text r h) in
    sym (is_none digits is) ∙ ap number_in same

-- what is no text has no digits
ascii_of : (bytes : List ℕ) → all_ascii_digits (without_leading_plus bytes) ≡ true → IsAscii bytes
ascii_of [] all = IsAscii-nil
ascii_of (x ∷ xs) all = elim (cases_eq x 43) [
  | inl plus ↦ IsAscii-cons x xs (omega (arith, plus)) (IsAscii-from_digits xs (own.to xs
      (subst (λ (t : List ℕ). all_ascii_digits t ≡ true) (without_leading_plus_plus (x ∷ xs) plus) all)))
  | inr plain ↦ IsAscii-from_digits (x ∷ xs) (own.to (x ∷ xs)
      (subst (λ (t : List ℕ). all_ascii_digits t ≡ true) (without_leading_plus_none (x ∷ xs) plain) all))
]

pub no_text : (bytes : List ℕ) → (IsUtf8 bytes → ⊥) → None ≡ number_in bytes
no_text bytes bad =
    sym (is_none (without_leading_plus bytes) (λ is. bad (IsUtf8-from_ascii bytes (ascii_of bytes is.0))))

pub number_of_text : (n : ℕ) → n < 2 ^ 64 → number_in (decimal n) ≡ Some n
number_of_text n lt =
    let is = decimal_is_IsNumeral n lt in
    let first = digit_at (decimal n) 0 is.0.1 is.0.0 in
    let plain = without_leading_plus_none (decimal n) (λ plus. omega (arith, first.0, first.1, plus)) in
    let value = digits_value-decimal own n lt in
    ap numeral plain
    ∙ is_some (decimal n) (digits_decimal own n lt, is.0.0, omega (arith, value, lt))
    ∙ ap (λ (m : ℕ). Some m) value
