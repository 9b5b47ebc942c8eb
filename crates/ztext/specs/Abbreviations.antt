-- Texts that use abbreviations (Z-Machine Standards Document 1.1, section 3.3).
use Rattle.std.specs.Prelude.{◌≡◌, ◌+◌, ◌-◌, ◌/◌, ◌%◌, ◌^◌, ◌==◌, ◌<◌, ℕ, zero, suc, nat_lt, Bool, true, false, List}
use Rattle.std.specs.Prelude.{[], if◌then◌else◌, ◌∷◌, ◌++◌, length, take, Option, Some, None, Ok}
use Rattle.ztext.specs.Bytes.{most_abbreviations}
use Rattle.ztext.specs.Alphabets.{spelling_of}
use Rattle.ztext.specs.Words.{packed, padded}
use Rattle.ztext.specs.Text.{abbreviation, decoded, Holds}

-- the abbreviation of a number
abbrev pub abbreviation_at : List (List ℕ) → ℕ → List ℕ
abbreviation_at [] number = []
abbreviation_at (a ∷ rest) zero = a
abbreviation_at (a ∷ rest) (suc n) = abbreviation_at rest n

-- whether a text begins with another
abbrev pub begins : List ℕ → List ℕ → Bool
begins [] text = true
begins (a ∷ rest) [] = false
begins (a ∷ rest) (c ∷ cs) = if a == c then begins rest cs else false

-- an abbreviation that stands at the beginning of a text
pub record Found : Type 0 where
  pub number : ℕ
  pub length : ℕ

-- the longer one, and of two that are as long the first
abbrev pub longer : Option Found → Option Found → Option Found
longer None other = other
longer (Some x) None = Some x
longer (Some x) (Some y) = if nat_lt x.length y.length then Some y else Some x

-- the longest abbreviation, the first of which has this number, that stands at the beginning of a text
abbrev pub longest_from : ℕ → List (List ℕ) → List ℕ → Option Found
longest_from number [] text = None
longest_from number (a ∷ rest) text =
    longer (if begins a text then Some (record { number = number; length = length a }) else None)
    (longest_from (number + 1) rest text)

abbrev pub longest : List (List ℕ) → List ℕ → Option Found
longest abbreviations text = longest_from 0 (take most_abbreviations abbreviations) text

-- an abbreviation is spelled by two Z-characters, 1 to 3 for its row of 32, and its place there
abbrev pub number_spelling : ℕ → List ℕ
number_spelling number = (1 + number / 32) ∷ (number % 32) ∷ []

-- the Z-characters of what is found, or else of the character
abbrev pub spelling_or : Option Found → ℕ → List ℕ
spelling_or None c = spelling_of c
spelling_or (Some x) c = number_spelling x.number

-- the characters behind the first one that what is found stands for
abbrev pub more_of : Option Found → ℕ
more_of None = 0
more_of (Some x) = x.length - 1

-- the Z-characters of a text behind so many characters, which are spelled already
abbrev pub spelled_behind : List (List ℕ) → ℕ → List ℕ → List ℕ
spelled_behind abbreviations spelled [] = []
spelled_behind abbreviations spelled (c ∷ cs) =
    if nat_lt 0 spelled then spelled_behind abbreviations (spelled - 1) cs
    else (let found = longest abbreviations (c ∷ cs) in
    spelling_or found c ++ spelled_behind abbreviations (more_of found) cs)

-- the Z-text of printable characters, with at each place the longest abbreviation that stands there
unfoldable pub encoded_with : List (List ℕ) → List ℕ → List ℕ
encoded_with abbreviations text = packed (padded (spelled_behind abbreviations 0 text))

-- these are abbreviations of a story
abbrev pub HasAbbreviations : List ℕ → List (List ℕ) → Type 0
HasAbbreviations story abbreviations = (number : ℕ) → number < length abbreviations → number < most_abbreviations
    → abbreviation story number ≡ Ok (abbreviation_at abbreviations number)

-- bytes are Z-text of these characters: a story with the abbreviations that holds them has the characters there
abbrev pub IsReadWith : List (List ℕ) → List ℕ → List ℕ → Type 0
IsReadWith abbreviations bytes text = (story : List ℕ) (at : ℕ) → HasAbbreviations story abbreviations
    → Holds story at bytes → at + length bytes < 2 ^ 32 → decoded story at ≡ Ok (text, at + length bytes)
