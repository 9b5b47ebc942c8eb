-- What a list of Z-characters prints (Z-Machine Standards Document 1.1, sections 3.2 to 3.5 and 3.8).
use Rattle.std.specs.Prelude.{◌≡◌, ◌==◌, ◌&&◌, ◌+◌, ◌-◌, ◌*◌, ◌<◌, ℕ, nat_lt, Bool, true, false, if◌then◌else◌, List}
use Rattle.std.specs.Prelude.{[], ◌∷◌, ◌++◌, length, take, slice_index, Result, Ok, Err}
use Rattle.ztext.specs.Results.{◌>>=◌}
use Rattle.ztext.specs.Alphabets.{lower_letters, upper_letters, punctuation, is_printable}

-- why a text cannot be read
pub data Cause : Type 0 where
  -- an escape names a code that is no character
  Character : Cause
  -- no word up to the end of the story has its top bit set
  End : Cause
  -- an abbreviation within an abbreviation, or without a table
  Abbreviation : Cause

-- What the Z-characters before it make of the next one: a letter of an alphabet, the high or the low half of an
-- escape's code, or the second half of an abbreviation's number.
pub data ReadingState : Type 0 where
  Lower : ReadingState
  Upper : ReadingState
  Punctuation : ReadingState
  EscapeHigh : ReadingState
  EscapeLow : ℕ → ReadingState
  Abbreviated : ℕ → ReadingState

abbrev pub is_punctuation : ReadingState → Bool
is_punctuation Punctuation = true
is_punctuation _ = false

-- the state after a Z-character: a shift holds for one, a shift after a shift takes its place
abbrev pub next : ReadingState → ℕ → ReadingState
next EscapeHigh z = EscapeLow z
next (EscapeLow high) z = Lower
next (Abbreviated row) z = Lower
next state z =
    if z == 0 then Lower
    else (if nat_lt z 4 then Abbreviated z
    else (if z == 4 then Upper
    else (if z == 5 then Punctuation
    else (if z == 6 && is_punctuation state then EscapeHigh
    else Lower))))

-- the letter of an alphabet at a Z-character from 6 on
abbrev pub letter : ReadingState → ℕ → List ℕ
letter Upper z = slice_index upper_letters (z - 6) ∷ []
letter Punctuation z =
    if z == 6 then []
    else (if z == 7 then 13 ∷ []
    else slice_index punctuation (z - 8) ∷ [])
letter _ z = slice_index lower_letters (z - 6) ∷ []

-- the character of a ten-bit code; 0 prints nothing
abbrev pub escaped : ℕ → Result (List ℕ) Cause
escaped code =
    if code == 0 then Ok []
    else (if is_printable code then Ok (code ∷ []) else Err Character)

-- what a Z-character prints in a state; `expand` gives the text of an abbreviation by its number
abbrev pub printed : (ℕ → Result (List ℕ) Cause) → ReadingState → ℕ → Result (List ℕ) Cause
printed expand EscapeHigh z = Ok []
printed expand (EscapeLow high) z = escaped (32 * high + z)
printed expand (Abbreviated row) z = expand (32 * (row - 1) + z)
printed expand state z =
    if z == 0 then Ok (32 ∷ [])
    else (if nat_lt z 6 then Ok []
    else Ok (letter state z))

-- what Z-characters print from a state on; what is unfinished at the end prints nothing
unfoldable pub reads : (ℕ → Result (List ℕ) Cause) → ReadingState → List ℕ → Result (List ℕ) Cause
reads expand state [] = Ok []
reads expand state (z ∷ zs) = printed expand state z >>= λ text. reads expand (next state z) zs
    >>= λ more. Ok (text ++ more)

-- the state after Z-characters
abbrev pub state_after : ReadingState → List ℕ → ReadingState
state_after state [] = state
state_after state (z ∷ zs) = state_after (next state z) zs

-- the state in which a text's Z-character at a place is read
abbrev pub state_at : List ℕ → ℕ → ReadingState
state_at zs place = state_after Lower (take place zs)

-- an escape of the text names no character
pub record HasBadEscape (zs : List ℕ) : Type 0 where
  pub place : ℕ
  pub within : place < length zs
  pub high : ℕ
  pub state : state_at zs place ≡ EscapeLow high
  pub code : (32 * high + slice_index zs place == 0) ≡ false
  pub bad : is_printable (32 * high + slice_index zs place) ≡ false

-- the text uses the abbreviation of a number
pub record UsesAbbreviation (zs : List ℕ) (number : ℕ) : Type 0 where
  pub place : ℕ
  pub within : place < length zs
  pub row : ℕ
  pub state : state_at zs place ≡ Abbreviated row
  pub named : number ≡ 32 * (row - 1) + slice_index zs place
