-- Texts in which any ZSCII code may stand (Z-Machine Standards Document 1.1, sections 3.2 to 3.8).
use Rattle.std.specs.Prelude.{◌==◌, ◌+◌, ◌-◌, ◌*◌, ℕ, nat_lt, if◌then◌else◌}
use Rattle.std.specs.Prelude.{List, [], ◌∷◌, ◌++◌, take, drop, slice_index, slice_range, Option, Some, None}
use Rattle.std.specs.Prelude.{Result, Ok, Err}
use Rattle.std.specs.List.{flat_map}
use Rattle.std.specs.Option.{unwrap_or}
use Rattle.ztext.specs.Alphabets.{lower_letters, upper_letters, punctuation, place_in, spelling_in_punctuation}
use Rattle.ztext.specs.Results.{◌>>=◌}
use Rattle.ztext.specs.Reading.{Cause, Abbreviation, ReadingState, Lower, Upper, Punctuation, EscapeHigh, EscapeLow}
use Rattle.ztext.specs.Reading.{Abbreviated, next}
use Rattle.ztext.specs.Text.{z_text_at, has_abbreviations, abbreviation_address, refused}
use Rattle.zcore_standard.specs.Loaded.{Loaded}

-- The three alphabets, of 26 codes each (3.5.3). In the third the first two stand for an escape and a new line, whatever
-- is written there.
abbrev pub default_alphabets : List ℕ
default_alphabets = lower_letters ++ upper_letters ++ 0 ∷ 13 ∷ punctuation

-- the story's own alphabets, or the default ones
abbrev pub alphabets_of : Loaded → List ℕ
alphabets_of loaded = unwrap_or loaded.own_alphabets default_alphabets

-- the codes of a letter, a Z-character from 6 on
abbrev pub letter_codes : List ℕ → ReadingState → ℕ → List ℕ
letter_codes alphabets Upper z = slice_index alphabets (26 + (z - 6)) ∷ []
letter_codes alphabets Punctuation z =
    if z == 6 then []
    else (if z == 7 then 13 ∷ []
    else slice_index alphabets (52 + (z - 6)) ∷ [])
letter_codes alphabets _ z = slice_index alphabets (z - 6) ∷ []

-- The codes that a Z-character comes to in a state. An escape names any code of ten bits (3.4), and `expand` gives the
-- codes of an abbreviation by its number (3.3).
abbrev pub codes_of : List ℕ → (ℕ → Result (List ℕ) Cause) → ReadingState → ℕ → Result (List ℕ) Cause
codes_of alphabets expand EscapeHigh z = Ok []
codes_of alphabets expand (EscapeLow high) z = Ok ((32 * high + z) ∷ [])
codes_of alphabets expand (Abbreviated row) z = expand (32 * (row - 1) + z)
codes_of alphabets expand state z =
    if z == 0 then Ok (32 ∷ [])
    else (if nat_lt z 6 then Ok []
    else Ok (letter_codes alphabets state z))

-- the codes of Z-characters from a state on; what is unfinished at the end comes to none (3.6.1)
unfoldable pub read_codes : List ℕ → (ℕ → Result (List ℕ) Cause) → ReadingState → List ℕ → Result (List ℕ) Cause
read_codes alphabets expand state [] = Ok []
read_codes alphabets expand state (z ∷ zs) =
    codes_of alphabets expand state z >>= λ codes.
    read_codes alphabets expand (next state z) zs >>= λ more.
    Ok (codes ++ more)

-- the codes of the text at an address, and the address after it
abbrev pub codes_with : List ℕ → (ℕ → Result (List ℕ) Cause) → List ℕ → ℕ → Result (List ℕ × ℕ) Cause
codes_with alphabets expand story at =
    z_text_at story at >>= λ x. read_codes alphabets expand Lower x.0 >>= λ codes. Ok (codes, x.1)

-- the codes of an abbreviation, which uses none itself
unfoldable pub abbreviation_codes : List ℕ → List ℕ → ℕ → Result (List ℕ) Cause
abbreviation_codes alphabets story number =
    if has_abbreviations story
    then (codes_with alphabets refused story (abbreviation_address story number) >>= λ x. Ok x.0)
    else Err Abbreviation

-- the text at an address, by these alphabets
unfoldable pub codes_at : List ℕ → List ℕ → ℕ → Result (List ℕ × ℕ) Cause
codes_at alphabets story at = codes_with alphabets (abbreviation_codes alphabets story) story at

-- Writing

-- the Z-characters of a code that neither of the first two alphabets has: 7 of the third is a new line, and its letters
-- have the Z-characters from 8 on (3.5.3); a code that none has is escaped (3.4)
abbrev pub spelled_in_third : List ℕ → ℕ → List ℕ
spelled_in_third alphabets code =
    if code == 13 then 5 ∷ 7 ∷ []
    else spelling_in_punctuation (place_in (drop 54 alphabets) code) code

-- its place in the second alphabet, with a shift before it (3.2.2)
abbrev pub spelled_in_second : List ℕ → Option ℕ → ℕ → List ℕ
spelled_in_second alphabets (Some place) code = 4 ∷ (place + 6) ∷ []
spelled_in_second alphabets None code = spelled_in_third alphabets code

-- its place in the first alphabet
abbrev pub spelled_in_first : List ℕ → Option ℕ → ℕ → List ℕ
spelled_in_first alphabets (Some place) code = (place + 6) ∷ []
spelled_in_first alphabets None code = spelled_in_second alphabets (place_in (slice_range alphabets 26 52) code) code

-- the Z-characters of a ZSCII code, by the first alphabet that has it; a space is 0 (3.5.1)
unfoldable pub spelling_by : List ℕ → ℕ → List ℕ
spelling_by alphabets code =
    if code == 32 then 0 ∷ []
    else spelled_in_first alphabets (place_in (take 26 alphabets) code) code

-- the Z-characters of ZSCII codes
abbrev pub spelled_by : List ℕ → List ℕ → List ℕ
spelled_by alphabets codes = flat_map (spelling_by alphabets) codes
