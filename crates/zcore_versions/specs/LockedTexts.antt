-- Texts of versions 1 and 2, in which an alphabet can be locked (Z-Machine Standards Document 1.1, sections 3.2 to
-- 3.7).
use Rattle.std.specs.Prelude.{◌==◌, ◌&&◌, ◌||◌, ◌+◌, ◌-◌, ◌*◌, ◌/◌, ◌%◌, ℕ, nat_le, nat_lt, Bool, false}
use Rattle.std.specs.Prelude.{if◌then◌else◌, List, [], ◌∷◌, ◌++◌, codes, length, option_map, slice_index, slice_range}
use Rattle.std.specs.Prelude.{Option, Some, None, Result, Ok, Err}
use Rattle.ztext.specs.Alphabets.{lower_letters, upper_letters, place_in}
use Rattle.ztext.specs.Bytes.{word_at}
use Rattle.ztext.specs.Reading.{Cause, Abbreviation}
use Rattle.ztext.specs.Results.{◌>>=◌}
use Rattle.ztext.specs.Text.{z_text_at, abbreviation_address, refused}
use Rattle.zcore_standard.specs.Texts.{default_alphabets}

-- The three alphabets, of 26 codes each, for the Z-characters from 6 on. In the third, 6 begins an escape; 7 is a new
-- line in version 2, and 0 in version 1 (3.5.4).
abbrev pub alphabets_in : ℕ → List ℕ
alphabets_in version =
    if version == 1 then lower_letters ++ upper_letters ++ 0 ∷ codes "0123456789.,!?_#'\"/\\<-:()"
    else default_alphabets

-- the alphabet after another one, and the one before it (3.2.2)
abbrev pub alphabet_after : ℕ → ℕ
alphabet_after alphabet = (alphabet + 1) % 3

abbrev pub alphabet_before : ℕ → ℕ
alphabet_before alphabet = (alphabet + 2) % 3

-- Reading

-- What the next Z-character is: one of an alphabet, the high or the low half of a code of ten bits, or the number of an
-- abbreviation.
pub data Expected : Type 0 where
  Letter : ℕ → Expected
  High : Expected
  Low : ℕ → Expected
  Number : Expected

-- the alphabet that is locked after a Z-character: 4 and 5 lock another one (3.2.2)
abbrev pub lock_after : ℕ → Expected → ℕ → ℕ
lock_after lock (Letter alphabet) z =
    if z == 4 then alphabet_after lock
    else (if z == 5 then alphabet_before lock
    else lock)
lock_after lock expected z = lock

-- What is expected after a Z-character, with the alphabet that is locked then. 2 and 3 shift for one Z-character, and
-- in version 2 the number of an abbreviation follows 1 (3.3).
abbrev pub expected_after : ℕ → ℕ → Expected → ℕ → Expected
expected_after version lock High z = Low z
expected_after version lock (Letter alphabet) z =
    if z == 1 && version == 2 then Number
    else (if z == 2 then Letter (alphabet_after lock)
    else (if z == 3 then Letter (alphabet_before lock)
    else (if z == 6 && alphabet == 2 then High
    else Letter lock)))
expected_after version lock expected z = Letter lock

-- the codes of a Z-character of an alphabet; 1 is a new line in version 1 (3.5.2)
abbrev pub letter_codes : ℕ → ℕ → ℕ → List ℕ
letter_codes version alphabet z =
    if z == 0 then 32 ∷ []
    else (if z == 1 && version == 1 then 13 ∷ []
    else (if nat_lt z 6 || (z == 6 && alphabet == 2) then []
    else slice_index (alphabets_in version) (26 * alphabet + (z - 6)) ∷ []))

-- the codes of a Z-character; `expand` gives those of an abbreviation by its number
abbrev pub locked_codes : ℕ → (ℕ → Result (List ℕ) Cause) → Expected → ℕ → Result (List ℕ) Cause
locked_codes version expand (Letter alphabet) z = Ok (letter_codes version alphabet z)
locked_codes version expand High z = Ok []
locked_codes version expand (Low high) z = Ok ((32 * high + z) ∷ [])
locked_codes version expand Number z = expand z

-- the codes of Z-characters; what is unfinished at the end comes to none (3.6.1)
unfoldable pub read_locked : ℕ → (ℕ → Result (List ℕ) Cause) → ℕ → Expected → List ℕ → Result (List ℕ) Cause
read_locked version expand lock expected [] = Ok []
read_locked version expand lock expected (z ∷ zs) =
    locked_codes version expand expected z >>= λ codes.
    read_locked version expand (lock_after lock expected z)
    (expected_after version (lock_after lock expected z) expected z) zs >>= λ more.
    Ok (codes ++ more)

-- the codes of the text at an address, and the address after it; the first alphabet is locked at its beginning
abbrev pub locked_text_at : ℕ → (ℕ → Result (List ℕ) Cause) → List ℕ → ℕ → Result (List ℕ × ℕ) Cause
locked_text_at version expand story at =
    z_text_at story at >>= λ x. read_locked version expand 0 (Letter 0) x.0 >>= λ codes. Ok (codes, x.1)

-- the story names a table of the 32 abbreviations of version 2 (3.3)
abbrev pub has_32_abbreviations : List ℕ → Bool
has_32_abbreviations story =
    nat_le 1 (word_at story 24) && nat_le (word_at story 24 + 2 * 32) (length story)

-- the codes of an abbreviation, which uses none itself
unfoldable pub locked_abbreviation : ℕ → List ℕ → ℕ → Result (List ℕ) Cause
locked_abbreviation version story number =
    if has_32_abbreviations story
    then (locked_text_at version refused story (abbreviation_address story number) >>= λ x. Ok x.0)
    else Err Abbreviation

-- the text at an address
unfoldable pub locked_codes_at : ℕ → List ℕ → ℕ → Result (List ℕ × ℕ) Cause
locked_codes_at version story at = locked_text_at version (locked_abbreviation version story) story at

-- Writing

-- the Z-character of the first letter in an alphabet: 6, but in the third 7 in version 1, and 8 in version 2
abbrev pub first_letter : ℕ → ℕ → ℕ
first_letter version alphabet = if alphabet == 2 then 6 + version else 6

-- the Z-character of a code in an alphabet, if it is a letter of it
abbrev pub letter_of : ℕ → ℕ → ℕ → Option ℕ
letter_of version alphabet code =
    let first = first_letter version alphabet in
    option_map (λ place. place + first)
    (place_in (slice_range (alphabets_in version) (26 * alphabet + (first - 6)) (26 * alphabet + 26)) code)

-- the first alphabet that has a code; an escape is in the third (3.4)
abbrev pub alphabet_by : Option ℕ → Option ℕ → ℕ
alphabet_by (Some z) other = 0
alphabet_by None (Some z) = 1
alphabet_by None None = 2

abbrev pub alphabet_of : ℕ → ℕ → ℕ
alphabet_of version code = alphabet_by (letter_of version 0 code) (letter_of version 1 code)

abbrev pub letter_or_escape : Option ℕ → ℕ → List ℕ
letter_or_escape (Some z) code = z ∷ []
letter_or_escape None code = 6 ∷ (code / 32) ∷ (code % 32) ∷ []

-- the Z-characters of a code, where its alphabet is read
abbrev pub spelled_within : ℕ → ℕ → List ℕ
spelled_within version code = letter_or_escape (letter_of version (alphabet_of version code) code) code

-- the Z-characters that shift to an alphabet, and that lock it
abbrev pub shift_to : ℕ → ℕ → ℕ
shift_to lock alphabet = if alphabet == alphabet_after lock then 2 else 3

abbrev pub lock_to : ℕ → ℕ → ℕ
lock_to lock alphabet = if alphabet == alphabet_after lock then 4 else 5

abbrev pub begins_in : ℕ → ℕ → List ℕ → Bool
begins_in version alphabet [] = false
begins_in version alphabet (code ∷ codes) = alphabet_of version code == alphabet

-- The Z-characters of a word, with the alphabet that is locked before it: a code of another alphabet is shifted to, or
-- its alphabet is locked where the next code is of it too (3.7.1).
unfoldable pub spelled_with_locks : ℕ → ℕ → List ℕ → List ℕ
spelled_with_locks version lock [] = []
spelled_with_locks version lock (code ∷ codes) =
    let alphabet = alphabet_of version code in
    if alphabet == lock then spelled_within version code ++ spelled_with_locks version lock codes
    else (if begins_in version alphabet codes
    then lock_to lock alphabet ∷ spelled_within version code ++ spelled_with_locks version alphabet codes
    else shift_to lock alphabet ∷ spelled_within version code ++ spelled_with_locks version lock codes)
