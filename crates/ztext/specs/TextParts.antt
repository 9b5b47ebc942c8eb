-- Words for the contracts of the functions within the crate.
use Rattle.std.specs.Prelude.{◌≡◌, ◌+◌, ◌*◌, ◌/◌, ◌%◌, ◌<◌, ◌≤◌, ℕ, zero, suc, min, true, false, List, [], ◌∷◌, ◌++◌}
use Rattle.std.specs.Prelude.{length, take, replicate, slice_index, if◌then◌else◌, Option, Some, None, Result, Ok, Err}
use Rattle.std.specs.Prelude.{MatchResult}
use Rattle.ztext.specs.declared.fault.TextFault.{TextFault}
use Rattle.ztext.specs.declared.fault.TextFault.TheVariants as faults
use Rattle.ztext.specs.declared.reading.State.TheVariants as code
use Rattle.ztext.specs.declared.reading.State as declared
use Rattle.ztext.specs.declared.reading.Output.{Output}
use Rattle.ztext.specs.declared.reading.Output.TheVariants as outputs
use Rattle.ztext.specs.Reading.{Cause, Character, Lower, Upper, Punctuation, EscapeHigh, EscapeLow, Abbreviated}
use Rattle.ztext.specs.Reading.{ReadingState, printed, next}
use Rattle.ztext.specs.Words.{three_of}
use Rattle.ztext.specs.Text.{has_abbreviations, abbreviation_address}
use Rattle.ztext.specs.Abbreviations.{Found, begins}
use Rattle.ztext.specs.Bytes.{most_abbreviations}

-- Z-characters are of five bits
abbrev pub AreSmall : List ℕ → Type 0
AreSmall [] = Unit {0}
AreSmall (z ∷ zs) = (z < 32) × AreSmall zs

-- the Z-characters of a word of bytes
abbrev pub three_at : List ℕ → ℕ → List ℕ
three_at bytes n = three_of (slice_index bytes (2 * n)) (slice_index bytes (2 * n + 1))

-- the Z-characters of a word, by its number
abbrev pub three_in : ℕ → List ℕ
three_in word = (word / 1024 % 32) ∷ (word / 32 % 32) ∷ (word % 32) ∷ []

-- the Z-characters of the first words of bytes
unfoldable pub words_of : ℕ → List ℕ → List ℕ
words_of zero bytes = []
words_of (suc n) bytes = words_of n bytes ++ three_of (slice_index bytes (2 * n)) (slice_index bytes (2 * n + 1))

-- the Z-character at a place of a text that stands at the front of bytes
abbrev pub z_character_at : List ℕ → ℕ → ℕ
z_character_at bytes place = slice_index
    (three_of (slice_index bytes (2 * (place / 3))) (slice_index bytes (2 * (place / 3) + 1))) (place % 3)

-- the state of the definitions that a state of the code is
abbrev pub state_of : declared.State → ReadingState
state_of code.Lower = Lower
state_of code.Upper = Upper
state_of code.Punctuation = Punctuation
state_of code.EscapeHigh = EscapeHigh
state_of (code.EscapeLow high) = EscapeLow high
state_of (code.Abbreviated row) = Abbreviated row

-- an abbreviation begins with a Z-character 1 to 3
abbrev pub HasRow : declared.State → Type 0
HasRow (code.Abbreviated row) = (0 < row) × (row < 4)
HasRow _ = Unit {0}

-- what a Z-character prints is what the definition answers, where `expand` gives the texts of abbreviations
abbrev pub Prints : (ℕ → Result (List ℕ) Cause) → Result (List ℕ) Cause → Result Output TextFault → Type 0
Prints expand read (Ok outputs.Nothing) = read ≡ Ok []
Prints expand read (Ok (outputs.Character c)) = read ≡ Ok (c ∷ [])
Prints expand read (Ok (outputs.Abbreviation number)) = (read ≡ expand number) × (number < most_abbreviations)
Prints expand read (Err faults.Character) = read ≡ Err Character
Prints expand read (Err _) = ⊥

-- the address of an abbreviation's text, or the fault of a story that has no table
abbrev pub FindsAbbreviation : List ℕ → ℕ → Result ℕ TextFault → Type 0
FindsAbbreviation story number result = MatchResult result
    (λ place. (has_abbreviations story ≡ true) × (place ≡ abbreviation_address story number))
    (λ fault. (fault ≡ faults.Abbreviation) × (has_abbreviations story ≡ false))

-- the first nine of Z-characters, filled with fives
unfoldable pub filled : List ℕ → List ℕ
filled zs = take 9 (zs ++ replicate 9 5)

-- a key holds the first nine of Z-characters, `count` of them so far
pub record IsFilledKey (zs : List ℕ) (count : ℕ) (key : List ℕ) : Type 0 where
  pub characters : key ≡ filled zs
  pub many : count ≡ min 9 (length zs)

-- the abbreviation of a number, where it stands at the beginning of a text
abbrev pub at_front : ℕ → List ℕ → List ℕ → Option Found
at_front number a text = if begins a text then Some (record { number = number; length = length a }) else None

-- a Z-character is a letter of alphabet A0 or a space, which it prints, and the next one is read in A0 too
abbrev pub PrintsInLower : ℕ → ℕ → Type 0
PrintsInLower z c = ((expand : ℕ → Result (List ℕ) Cause) → printed expand Lower z ≡ Ok (c ∷ [])) × (next Lower z ≡ Lower)

-- so do these, one after the other
abbrev pub ArePrintedInLower : List ℕ → List ℕ → Type 0
ArePrintedInLower [] [] = Unit {0}
ArePrintedInLower (z ∷ zs) (c ∷ cs) = PrintsInLower z c × ArePrintedInLower zs cs
ArePrintedInLower _ _ = ⊥

-- a word can be read at once: it is read from its first column on, and prints three characters, for which the text has
-- room
pub record IsReadAtOnce (characters : List ℕ) (column : ℕ) (state : ReadingState) (most : ℕ) (text three : List ℕ)
    : Type 0 where
  pub lower : state ≡ Lower
  pub begins : column ≡ 0
  pub room : length text + 3 ≤ most
  pub printed : ArePrintedInLower characters three
