-- Text in a story, and the text of the compiler (Z-Machine Standards Document 1.1, sections 3.2 to 3.8 and 13.3).
use Rattle.std.specs.Prelude.{◌≡◌, ◌&&◌, ◌+◌, ◌*◌, ◌^◌, ◌<◌, ℕ, nat_le, Bool, true, false, if◌then◌else◌, List, ◌++◌}
use Rattle.std.specs.Prelude.{length, take, drop, map, replicate, Result, Ok, Err}
use Rattle.ztext.specs.Bytes.{word_at, most_abbreviations}
use Rattle.ztext.specs.Alphabets.{spelled}
use Rattle.ztext.specs.Results.{◌>>=◌}
use Rattle.ztext.specs.Reading.{Cause, Character, End, Abbreviation, Lower, reads, HasBadEscape, UsesAbbreviation}
use Rattle.ztext.specs.Words.{packed, padded, unpacked_text, RunsPastEnd}

-- Reading

-- the Z-characters of the text at an address, and the address after it
abbrev pub z_text_at : List ℕ → ℕ → Result (List ℕ × ℕ) Cause
z_text_at story at = unpacked_text at (drop at story)

abbrev pub read_with : (ℕ → Result (List ℕ) Cause) → List ℕ → ℕ → Result (List ℕ × ℕ) Cause
read_with expand story at = z_text_at story at >>= λ x. reads expand Lower x.0 >>= λ text. Ok (text, x.1)

-- where no abbreviation may stand
abbrev pub refused : ℕ → Result (List ℕ) Cause
refused number = Err Abbreviation

-- a story with a header names a table of 96 words at $18, unless the word there is 0 or the table does not lie in it
abbrev pub has_abbreviations : List ℕ → Bool
has_abbreviations story =
    nat_le 64 (length story)
    && nat_le 1 (word_at story 24)
    && nat_le (word_at story 24 + 2 * most_abbreviations) (length story)

-- the address of an abbreviation's text, which the table holds halved
abbrev pub abbreviation_address : List ℕ → ℕ → ℕ
abbreviation_address story number = 2 * word_at story (word_at story 24 + 2 * number)

-- the text of an abbreviation, which uses none itself
unfoldable pub abbreviation : List ℕ → ℕ → Result (List ℕ) Cause
abbreviation story number =
    if has_abbreviations story then (read_with refused story (abbreviation_address story number) >>= λ x. Ok x.0)
    else Err Abbreviation

-- the text at an address of a story, and the address after it
unfoldable pub decoded : List ℕ → ℕ → Result (List ℕ × ℕ) Cause
decoded story at = read_with (abbreviation story) story at

-- The causes, as facts of the story

-- the Z-characters of the text at an address are these
abbrev pub IsZText : List ℕ → ℕ → List ℕ → Type 0
IsZText story at zs = (after : ℕ) × (z_text_at story at ≡ Ok (zs, after))

-- why the text at an address cannot be read, by itself or by an abbreviation that it uses
pub data HasCause (story : List ℕ) (at : ℕ) : Cause → Type 0 where
  past_end : RunsPastEnd story at → HasCause story at End
  bad_escape : (zs : List ℕ) → IsZText story at zs → HasBadEscape zs → HasCause story at Character
  no_table : (zs : List ℕ) (number : ℕ) → IsZText story at zs → UsesAbbreviation zs number
      → has_abbreviations story ≡ false → HasCause story at Abbreviation
  nested : (zs inner : List ℕ) (number other : ℕ) → IsZText story at zs → UsesAbbreviation zs number
      → has_abbreviations story ≡ true → IsZText story (abbreviation_address story number) inner
      → UsesAbbreviation inner other → HasCause story at Abbreviation
  past_end_within : (zs : List ℕ) (number : ℕ) → IsZText story at zs → UsesAbbreviation zs number
      → has_abbreviations story ≡ true → RunsPastEnd story (abbreviation_address story number) → HasCause story at End
  bad_escape_within : (zs inner : List ℕ) (number : ℕ) → IsZText story at zs → UsesAbbreviation zs number
      → has_abbreviations story ≡ true → IsZText story (abbreviation_address story number) inner → HasBadEscape inner
      → HasCause story at Character

-- Writing

-- the Z-text of printable characters
unfoldable pub encoded : List ℕ → List ℕ
encoded text = packed (padded (spelled text))

-- bytes stand at an address of a story
abbrev pub Holds : List ℕ → ℕ → List ℕ → Type 0
Holds story at bytes = take (length bytes) (drop at story) ≡ bytes

-- bytes are Z-text of these characters: a story that holds them has the characters there
abbrev pub IsReadAs : List ℕ → List ℕ → Type 0
IsReadAs bytes text = (story : List ℕ) (at : ℕ) → Holds story at bytes → at + length bytes < 2 ^ 32
    → decoded story at ≡ Ok (text, at + length bytes)

-- Keys of the dictionary

-- a capital as a small letter
abbrev pub lower_case : ℕ → ℕ
lower_case c = if nat_le 65 c && nat_le c 90 then c + 32 else c

-- the first nine Z-characters of a word's spelling in small letters, filled with fives
unfoldable pub key_of : List ℕ → List ℕ
key_of word = packed (take 9 (spelled (map lower_case word) ++ replicate 9 5))
