-- What characters print, and texts that stand in a story.
use Rattle.std.proofs.Common.{◌≡◌, ℕ, suc, ◌+◌, ◌-◌, ◌^◌, ◌<◌, ◌≤◌, List, [], ◌∷◌, ◌++◌, codes, length, Bool, true}
use Rattle.std.proofs.Common.{false, Ok, refl, ap, ◌∙◌, arith}
use Rattle.std.specs.Prelude.{nat_lt, nat_le, nat_eq, if◌then◌else◌, map, ◌&&◌, ◌||◌}
use Rattle.std.specs.List.{All, flat_map, filter, list_all}
use Rattle.std.proofs.lemmas.Bool.{le-leb, ne_eqb, ltb-true, leb-true, and_parts}
use Rattle.ztext.specs.Alphabets.{is_printable, spelling_of}
use Rattle.ztext.specs.Words.{packed}
use Rattle.zcore.specs.Arithmetic.{digit, decimal, signed_text}
use Rattle.zcore.specs.Parts.{transcribed}
use Rattle.ztext.specs.Abbreviations.{encoded_with, HasAbbreviations}
use Rattle.ztext.specs.Text.{Holds, decoded, encoded}
use Rattle.ztext.proofs.Spelling.{AreBytes}
use Rattle.ztext.proofs.RoundTrip.{round_trip}
use Rattle.ztext.proofs.Expanding.{round_trip_with, some_if_two}
use Rattle.meaning.specs.World.{shown, words_of}
use Rattle.meaning.specs.declared.cause.Cause.{Cause}
use Rattle.meaning.specs.declared.cause.Cause.TheVariants as causes
use Rattle.meaning.specs.Places.{machine_character}
use Rattle.syntax_lexer.specs.Printable.{IsPrintable}
use Rattle.code.specs.HeldProgram.{fault_line}

-- a character that prints itself
prints_itself : (c : ℕ) → 14 ≤ c → transcribed c ≡ c ∷ []
prints_itself c from =
    let some : nat_eq c 0 ≡ false = ne_eqb c 0 (λ h. omega (arith, h, from)) in
    let other : nat_eq c 13 ≡ false = ne_eqb c 13 (λ h. omega (arith, h, from)) in
    rw (some, other) refl

-- Numbers

-- a text that prints itself
abbrev Plain : List ℕ → Type 0
Plain text = flat_map transcribed text ≡ text

plain_more : (c : ℕ) (text : List ℕ) → 14 ≤ c → Plain text → Plain (c ∷ text)
plain_more c text from h = ap (λ x. x ++ flat_map transcribed text) (prints_itself c from) ∙ ap (λ xs. c ∷ xs) h

plain_digit : (n power : ℕ) (text : List ℕ) → Plain text → Plain (digit n power ∷ text)
plain_digit n power text h = plain_more (digit n power) text (omega arith) h

plain_either : (b : Bool) (xs ys : List ℕ) → Plain xs → Plain ys → Plain (if b then xs else ys)
plain_either true xs ys h k = h
plain_either false xs ys h k = k

plain_decimal : (n : ℕ) → Plain (decimal n)
unfolding decimal
plain_decimal n =
    let one = plain_digit n 1 [] refl in
    let two = plain_digit n 10 _ one in
    let three = plain_digit n 100 _ two in
    let four = plain_digit n 1000 _ three in
    let five = plain_digit n 10000 _ four in
    plain_either (nat_lt n 10) _ _ one (plain_either (nat_lt n 100) _ _ two
    (plain_either (nat_lt n 1000) _ _ three (plain_either (nat_lt n 10000) _ _ four five)))

-- a signed word in decimal prints itself
pub number_prints : (word : ℕ) → flat_map transcribed (signed_text word) ≡ signed_text word
unfolding signed_text
number_prints word = plain_either (nat_le 32768 word) _ _
    (plain_more 45 (decimal (65536 - word)) (omega arith) (plain_decimal (65536 - word))) (plain_decimal word)

-- Texts between quotes

shown_by : (b d : Bool) (c : ℕ) → 14 ≤ c
    → transcribed (if b then 13 else (if d then 34 else c)) ≡ (if b then 10 else (if d then 34 else c)) ∷ []
shown_by true d c from = refl
shown_by false true c from = refl
shown_by false false c from = prints_itself c from

pub text_prints : (bytes : List ℕ) → All IsPrintable bytes
    → flat_map transcribed (map machine_character bytes) ≡ map shown bytes
text_prints [] h = refl
text_prints (c ∷ cs) h =
    let here : (32 ≤ c) × (c ≤ 126) = h 0 c (omega arith) in
    ap (λ x. x ++ flat_map transcribed (map machine_character cs))
    (shown_by (nat_eq c 94) (nat_eq c 126) c (omega (arith, here.0)))
    ∙ ap (λ xs. shown c ∷ xs) (text_prints cs (λ k d l. h (suc k) d (omega (arith, l))))

printable_or : (b x : Bool) → x ≡ true → (b || x) ≡ true
printable_or true x h = refl
printable_or false x h = h

printable_by : (b d : Bool) (c : ℕ) → 32 ≤ c → c ≤ 126 → is_printable (if b then 13 else (if d then 34 else c)) ≡ true
printable_by true d c h k = refl
printable_by false true c h k = refl
printable_by false false c h k =
    let low : nat_le 32 c ≡ true = le-leb 32 c h in
    let high : nat_le c 126 ≡ true = le-leb c 126 k in
    printable_or (nat_eq c 13) (nat_le 32 c && nat_le c 126) (rw (low, high) refl)

text_printable : (bytes : List ℕ) → All IsPrintable bytes → list_all is_printable (map machine_character bytes) ≡ true
text_printable [] h = refl
text_printable (c ∷ cs) h =
    let here : (32 ≤ c) × (c ≤ 126) = h 0 c (omega arith) in
    let one = printable_by (nat_eq c 94) (nat_eq c 126) c here.0 here.1 in
    let more = text_printable cs (λ k d l. h (suc k) d (omega (arith, l))) in
    rw (one, more) refl

-- nothing of it is left out
kept_by : (cs : List ℕ) → list_all is_printable cs ≡ true → filter is_printable cs ≡ cs
kept_by [] e = refl
kept_by (c ∷ cs) e = let parts = and_parts (is_printable c) (list_all is_printable cs) e in
    rw parts.0 (ap (λ xs. c ∷ xs) (kept_by cs parts.1))

pub printable_kept : (bytes : List ℕ) → All IsPrintable bytes
    → filter is_printable (map machine_character bytes) ≡ map machine_character bytes
printable_kept bytes printable = kept_by (map machine_character bytes) (text_printable bytes printable)

-- the text of an item is read back
pub text_read : (abbreviations : List (List ℕ)) (bytes story : List ℕ) (q : ℕ)
    → All (λ (a : List ℕ). 2 ≤ length a) abbreviations → HasAbbreviations story abbreviations → All IsPrintable bytes
    → Holds story q (encoded_with abbreviations (map machine_character bytes))
    → q + length (encoded_with abbreviations (map machine_character bytes)) < 2 ^ 32
    → decoded story q ≡ Ok (
      map machine_character bytes,
      q
          + length (encoded_with abbreviations (map machine_character bytes)),
    )
text_read abbreviations bytes story q two has printable h low =
    round_trip_with abbreviations (map machine_character bytes) story q (some_if_two abbreviations two)
    (text_printable bytes printable) has h low

-- Faults

-- what is known of the line of a fault
pub record IsLine (words : List ℕ) : Type 0 where
  pub bytes : AreBytes (fault_line words)
  pub printable : list_all is_printable (fault_line words) ≡ true
  pub prints : flat_map transcribed (fault_line words) ≡ 10 ∷ codes "[Fault: " ++ words ++ codes "]" ++ 10 ∷ []
  pub short : nat_le (length (encoded (fault_line words))) 1000 ≡ true

bytes_below : (text : List ℕ) → list_all (λ n. nat_lt n 256) text ≡ true → AreBytes text
bytes_below [] e = tt
bytes_below (c ∷ cs) e =
    let parts = and_parts (nat_lt c 256) (list_all (λ n. nat_lt n 256) cs) e in
    (ltb-true c 256 parts.0, bytes_below cs parts.1)

-- the line of each fault
pub cause_line : (cause : Cause) → IsLine (words_of cause)
unfolding encoded packed spelling_of
cause_line causes.DivisionByZero = record {
  bytes = bytes_below (fault_line (words_of causes.DivisionByZero)) refl;
  printable = refl;
  prints = refl;
  short = refl;
}
cause_line causes.NotAnObject = record {
  bytes = bytes_below (fault_line (words_of causes.NotAnObject)) refl;
  printable = refl;
  prints = refl;
  short = refl;
}
cause_line causes.IndexOutOfRange = record {
  bytes = bytes_below (fault_line (words_of causes.IndexOutOfRange)) refl;
  printable = refl;
  prints = refl;
  short = refl;
}
cause_line causes.NoSuchProperty = record {
  bytes = bytes_below (fault_line (words_of causes.NoSuchProperty)) refl;
  printable = refl;
  prints = refl;
  short = refl;
}
cause_line causes.PropertyOfManyWords = record {
  bytes = bytes_below (fault_line (words_of causes.PropertyOfManyWords)) refl;
  printable = refl;
  prints = refl;
  short = refl;
}
cause_line causes.ObjectInsideItself = record {
  bytes = bytes_below (fault_line (words_of causes.ObjectInsideItself)) refl;
  printable = refl;
  prints = refl;
  short = refl;
}
cause_line causes.NotACharacter = record {
  bytes = bytes_below (fault_line (words_of causes.NotACharacter)) refl;
  printable = refl;
  prints = refl;
  short = refl;
}
cause_line causes.BufferTooSmall = record {
  bytes = bytes_below (fault_line (words_of causes.BufferTooSmall)) refl;
  printable = refl;
  prints = refl;
  short = refl;
}

-- the line of a fault is read back
pub line_read : (words story : List ℕ) (q : ℕ) → IsLine words → Holds story q (encoded (fault_line words))
    → q < 524288
    → decoded story q ≡ Ok (fault_line words, q + length (encoded (fault_line words)))
line_read words story q line h low =
    round_trip (fault_line words) (encoded (fault_line words)) story q line.bytes line.printable refl h
    (omega (arith, low, leb-true (length (encoded (fault_line words))) 1000 line.short))
