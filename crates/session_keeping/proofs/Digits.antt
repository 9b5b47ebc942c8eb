-- The text of what is given for a name reads back.
use Rattle.std.proofs.Common.{◌≡◌, ◌≢◌, ◌+◌, ◌-◌, ◌*◌, ◌^◌, ◌<◌, ◌≤◌, ◌==◌, ◌&&◌, ◌++◌, ◌∙◌, ℕ, zero, suc, Bool, true, false, not}
use Rattle.std.proofs.Common.{le-leb, lt-ltb, ne_eqb, ◌/◌, ◌%◌, if◌then◌else◌, List, [], ◌∷◌, length, Option, Some, None, Ok, ap, sym, refl, arith, rules, append-nil}
use Rattle.std.specs.Prelude.{nat_le, nat_lt, replicate, slice_index}
use Rattle.std.specs.Fmt.{decimal}
use Rattle.std.specs.Result.{result_ok}
use Rattle.std.specs.Str.{all_ascii_digits}
use Rattle.std.proofs.lemmas.Fmt.{decimal_nonempty, digits_decimal, digits_value-decimal}
use Rattle.std.proofs.lemmas.Str.Parse.{IsNumeralModel, numerals_by_fold, tells_all_ascii_digits}
use Rattle.base64.specs.Engines.{standard}
use Rattle.base64.specs.GeneralPurpose.{IsBytes, decode_of, encode_of, engine_symbols}
use Rattle.base64.specs.Rfc4648.{encode_symbols, padding_len}
use Rattle.base64.proofs.EngineFacts.{decode_of-encode_of, encode_of-nil}
use Rattle.session_keeping.specs.Answers.{after_space, answer_text, before_space, bytes_text, digits_after, given_by, given_of}
use Rattle.session_keeping.specs.Answers.{number_of, with_digit}
use Rattle.session_keeping.specs.Entries.{lacks}

-- The digits of a number

abbrev read_on : ℕ → List ℕ → ℕ
read_on n [] = n
read_on n (c ∷ cs) = read_on (10 * n + (c - 48)) cs

own : IsNumeralModel (λ ds. all_ascii_digits ds ≡ true) (read_on 0)
own = numerals_by_fold _ (search rules) read_on (search rules)

are_digits : (n : ℕ) → n < 256 → all_ascii_digits (decimal n) ≡ true
are_digits n h = digits_decimal own n (omega (arith, h))

their_value : (n : ℕ) → n < 256 → read_on 0 (decimal n) ≡ n
their_value n h = digits_value-decimal own n (omega (arith, h))

at_most : (m : ℕ) (ds : List ℕ) → m ≤ read_on m ds
at_most m [] = omega arith
at_most m (c ∷ cs) = omega (arith, at_most (10 * m + (c - 48)) cs)

abbrev pick : Bool → Bool → Bool → ℕ → Option ℕ
pick low high small n = if low && high && small then Some n else None

digit_more : (m c : ℕ) → 48 ≤ c → c ≤ 57 → 10 * m + (c - 48) < 256 → with_digit m c ≡ Some (10 * m + (c - 48))
digit_more m c low high small =
    let n = 10 * m + (c - 48) in
    ap (λ b. pick b (nat_le c 57) (nat_lt n 256) n) (le-leb 48 c low)
    ∙ ap (λ b. pick true b (nat_lt n 256) n) (le-leb c 57 high)
    ∙ ap (λ b. pick true true b n) (lt-ltb n 256 small)

digits_read : (m : ℕ) (ds : List ℕ) → all_ascii_digits ds ≡ true → read_on m ds < 256
    → digits_after (Some m) ds ≡ Some (read_on m ds)
digits_read m [] p h = refl
digits_read m (c ∷ cs) p h =
    let parts = tells_all_ascii_digits.parts c cs p in
    let small : 10 * m + (c - 48) < 256 = omega (arith, at_most (10 * m + (c - 48)) cs, h) in
    ap (λ o. digits_after o cs) (digit_more m c parts.0.0 parts.0.1 small)
    ∙ digits_read (10 * m + (c - 48)) cs parts.1 h

number_begins : (text : List ℕ) → 0 < length text → number_of text ≡ digits_after (Some 0) text
number_begins [] h = absurd (omega (arith, h))
number_begins (b ∷ bs) h = refl

number_read : (n : ℕ) → n < 256 → number_of (decimal n) ≡ Some n
number_read n h =
    let value = their_value n h in
    number_begins (decimal n) (decimal_nonempty n (omega (arith, h)))
    ∙ digits_read 0 (decimal n) (are_digits n h) (omega (arith, value, h)) ∙ ap (λ v. Some v) value

-- Bytes that a text does not have

cons_lacks : (byte b : ℕ) (bs : List ℕ) → (b == byte) ≡ false → lacks byte bs ≡ true → lacks byte (b ∷ bs) ≡ true
cons_lacks byte b bs e p = ap (λ x. not x && lacks byte bs) e ∙ p

and_both : (a b : Bool) → (a && b) ≡ true → (a ≡ true) × (b ≡ true)
and_both true b e = (refl, e)
and_both false b e = let no : false ≡ true = e in absurd (cc no)

not_true : (a : Bool) → not a ≡ true → a ≡ false
not_true true e = let no : false ≡ true = e in absurd (cc no)
not_true false e = refl

pub lacks_both : (byte b : ℕ) (bs : List ℕ) → lacks byte (b ∷ bs) ≡ true → ((b == byte) ≡ false) × (lacks byte bs ≡ true)
lacks_both byte b bs e =
    let both = and_both (not (b == byte)) (lacks byte bs) e in (not_true (b == byte) both.0, both.1)

pub lacks_append : (byte : ℕ) (xs ys : List ℕ) → lacks byte xs ≡ true → lacks byte ys ≡ true → lacks byte (xs ++ ys) ≡ true
lacks_append byte [] ys p q = q
lacks_append byte (x ∷ xs) ys p q =
    let both = lacks_both byte x xs p in cons_lacks byte x (xs ++ ys) both.0 (lacks_append byte xs ys both.1 q)

digits_lack : (byte : ℕ) (ds : List ℕ) → byte < 48 → all_ascii_digits ds ≡ true → lacks byte ds ≡ true
digits_lack byte [] h p = refl
digits_lack byte (c ∷ cs) h p =
    let parts = tells_all_ascii_digits.parts c cs p in
    cons_lacks byte c cs (ne_eqb c byte (omega (arith, parts.0.0, h))) (digits_lack byte cs h parts.1)

table_lacks : (table : List ℕ) → lacks 10 table ≡ true → (i : ℕ) → (slice_index table i == 10) ≡ false
table_lacks [] p zero = refl
table_lacks [] p (suc i) = refl
table_lacks (x ∷ xs) p zero = (lacks_both 10 x xs p).0
table_lacks (x ∷ xs) p (suc i) = table_lacks xs (lacks_both 10 x xs p).1 i

two_lack : (x y : ℕ) (rest : List ℕ) → (x == 10) ≡ false → (y == 10) ≡ false → lacks 10 rest ≡ true
    → lacks 10 (x ∷ y ∷ rest) ≡ true
two_lack x y rest e d p = cons_lacks 10 x (y ∷ rest) e (cons_lacks 10 y rest d p)

symbols_lack : (table : List ℕ) → ((i : ℕ) → (slice_index table i == 10) ≡ false) → (m : List ℕ)
    → lacks 10 (encode_symbols table m) ≡ true
unfolding encode_symbols
symbols_lack table h [] = refl
symbols_lack table h (a ∷ []) =
    two_lack (slice_index table (a / 4)) (slice_index table (a % 4 * 16)) [] (h (a / 4)) (h (a % 4 * 16)) refl
symbols_lack table h (a ∷ b ∷ []) =
    let last : ℕ = slice_index table (b % 16 * 4) in
    two_lack (slice_index table (a / 4)) (slice_index table (a % 4 * 16 + b / 16)) (last ∷ []) (h (a / 4))
    (h (a % 4 * 16 + b / 16)) (cons_lacks 10 last [] (h (b % 16 * 4)) refl)
symbols_lack table h (a ∷ b ∷ c ∷ more) =
    let third : ℕ = slice_index table (b % 16 * 4 + c / 64) in
    let last : ℕ = slice_index table (c % 64) in
    let rest : List ℕ = encode_symbols table more in
    two_lack (slice_index table (a / 4)) (slice_index table (a % 4 * 16 + b / 16)) (third ∷ last ∷ rest) (h (a / 4))
    (h (a % 4 * 16 + b / 16))
    (two_lack third last rest (h (b % 16 * 4 + c / 64)) (h (c % 64)) (symbols_lack table h more))

padding_lacks : (k : ℕ) → lacks 10 (replicate k 61) ≡ true
padding_lacks zero = refl
padding_lacks (suc k) = padding_lacks k

encoded_lacks : (m : List ℕ) → lacks 10 (encode_of standard m) ≡ true
encoded_lacks m =
    lacks_append 10 (encode_symbols (engine_symbols standard) m) (replicate (padding_len (length m)) 61)
    (symbols_lack (engine_symbols standard) (table_lacks (engine_symbols standard) refl) m) (padding_lacks (padding_len (length m)))

bytes_lack : (bytes : List ℕ) → lacks 10 (bytes_text bytes) ≡ true
bytes_lack [] = refl
bytes_lack (b ∷ bs) = encoded_lacks (b ∷ bs)

pub answer_lacks : (given : List ℕ) → IsBytes given → lacks 10 (answer_text given) ≡ true
answer_lacks [] h = refl
answer_lacks (n ∷ bytes) h =
    lacks_append 10 (decimal n) (bytes_text bytes) (digits_lack 10 (decimal n) (omega arith) (are_digits n (h 0)))
    (bytes_lack bytes)

-- A number, and bytes after a space

before_all : (xs : List ℕ) → lacks 32 xs ≡ true → before_space xs ≡ xs
before_all [] p = refl
before_all (x ∷ xs) p =
    let both = lacks_both 32 x xs p in
    ap (λ b. if b then [] else x ∷ before_space xs) both.0 ∙ ap (λ l. x ∷ l) (before_all xs both.1)

after_all : (xs : List ℕ) → lacks 32 xs ≡ true → after_space xs ≡ []
after_all [] p = refl
after_all (x ∷ xs) p =
    let both = lacks_both 32 x xs p in ap (λ b. if b then xs else after_space xs) both.0 ∙ after_all xs both.1

before_first : (xs ys : List ℕ) → lacks 32 xs ≡ true → before_space (xs ++ 32 ∷ ys) ≡ xs
before_first [] ys p = refl
before_first (x ∷ xs) ys p =
    let both = lacks_both 32 x xs p in
    ap (λ b. if b then [] else x ∷ before_space (xs ++ 32 ∷ ys)) both.0 ∙ ap (λ l. x ∷ l) (before_first xs ys both.1)

after_first : (xs ys : List ℕ) → lacks 32 xs ≡ true → after_space (xs ++ 32 ∷ ys) ≡ ys
after_first [] ys p = refl
after_first (x ∷ xs) ys p =
    let both = lacks_both 32 x xs p in
    ap (λ b. if b then xs ++ 32 ∷ ys else after_space (xs ++ 32 ∷ ys)) both.0 ∙ after_first xs ys both.1

given_some : (text : List ℕ) → 0 < length text
    → given_of text ≡ given_by (number_of (before_space text)) (result_ok (decode_of standard (after_space text)))
given_some [] h = absurd (omega (arith, h))
given_some (b ∷ bs) h = refl

abbrev by_parts : List ℕ → List ℕ → Option (List ℕ)
by_parts code bytes = given_by (number_of code) (result_ok (decode_of standard bytes))

none_are_bytes : (none : List ℕ) → none ≡ [] → IsBytes none
none_are_bytes [] e zero = omega arith
none_are_bytes [] e (suc i) = omega arith
none_are_bytes (x ∷ xs) e i = let no : length (x ∷ xs) ≡ 0 = ap length e in absurd (omega (arith, no))

none_decoded : decode_of standard [] ≡ Ok []
none_decoded =
    ap (decode_of standard) (sym (encode_of-nil standard)) ∙ decode_of-encode_of standard [] refl (none_are_bytes [] refl)

more_than_none : (xs ys : List ℕ) → 0 < length xs → 0 < length (xs ++ ys)
more_than_none [] ys h = absurd (omega (arith, h))
more_than_none (x ∷ xs) ys h = omega arith

pub given_read : (given : List ℕ) → IsBytes given → given_of (answer_text given) ≡ Some given
given_read [] h = refl
given_read (n ∷ []) h =
    let ds = decimal n in
    let lack = digits_lack 32 ds (omega arith) (are_digits n (h 0)) in
    ap given_of (append-nil ds) ∙ given_some ds (decimal_nonempty n (omega (arith, h 0)))
    ∙ ap (λ l. by_parts l (after_space ds)) (before_all ds lack) ∙ ap (by_parts ds) (after_all ds lack)
    ∙ ap (λ o. given_by o (result_ok (decode_of standard []))) (number_read n (h 0))
    ∙ ap (λ r. given_by (Some n) (result_ok r)) none_decoded
given_read (n ∷ b ∷ bs) h =
    let ds = decimal n in
    let text = encode_of standard (b ∷ bs) in
    let lack = digits_lack 32 ds (omega arith) (are_digits n (h 0)) in
    given_some (ds ++ 32 ∷ text) (more_than_none ds (32 ∷ text) (decimal_nonempty n (omega (arith, h 0))))
    ∙ ap (λ l. by_parts l (after_space (ds ++ 32 ∷ text))) (before_first ds text lack)
    ∙ ap (by_parts ds) (after_first ds text lack)
    ∙ ap (λ o. given_by o (result_ok (decode_of standard text))) (number_read n (h 0))
    ∙ ap (λ r. given_by (Some n) (result_ok r)) (decode_of-encode_of standard (b ∷ bs) refl (λ i. h (suc i)))
