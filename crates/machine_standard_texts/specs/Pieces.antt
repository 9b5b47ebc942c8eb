-- What Z-characters of a text come to, one after another.
use Rattle.std.specs.Prelude.{◌≡◌, ◌<◌, ◌≤◌, ℕ, List, [], ◌∷◌, ◌++◌, drop, Option, Some, None, Result, Ok}
use Rattle.ztext.specs.Bytes.{most_abbreviations}
use Rattle.ztext.specs.Reading.{Cause, ReadingState, Lower, Upper, Punctuation, EscapeHigh, EscapeLow, Abbreviated}
use Rattle.ztext.specs.Results.{◌>>=◌}
use Rattle.zcore_standard.specs.Texts.{read_codes}
use Rattle.machine_standard_texts.specs.declared.pieces.Piece.{Piece}
use Rattle.machine_standard_texts.specs.declared.pieces.Piece.TheVariants as pieces
use Rattle.machine_standard_texts.specs.declared.pieces.State.TheVariants as code
use Rattle.machine_standard_texts.specs.declared.pieces.State as declared
use Rattle.machine_standard_texts.specs.declared.reading.Named.{Named}

-- how many codes the three alphabets have
abbrev pub alphabets_length : ℕ
alphabets_length = 78

-- the state of the definitions that a state of the code is
abbrev pub state_of : declared.State → ReadingState
state_of code.Lower = Lower
state_of code.Upper = Upper
state_of code.Punctuation = Punctuation
state_of code.EscapeHigh = EscapeHigh
state_of (code.EscapeLow high) = EscapeLow high
state_of (code.Abbreviated row) = Abbreviated row

-- a state in which the halves of a number are small
abbrev pub IsSmall : declared.State → Type 0
IsSmall (code.EscapeLow high) = high < 32
IsSmall (code.Abbreviated row) = (0 < row) × (row < 4)
IsSmall _ = Unit {0}

-- what a Z-character comes to is what the definition answers
abbrev pub Comes : (ℕ → Result (List ℕ) Cause) → Result (List ℕ) Cause → Piece → Type 0
Comes expand read pieces.Nothing = read ≡ Ok []
Comes expand read (pieces.Code c) = read ≡ Ok (c ∷ [])
Comes expand read (pieces.Abbreviation number) = (read ≡ expand number) × (number < most_abbreviations)

-- codes, and then those that are still read
abbrev pub joined : List ℕ → Result (List ℕ) Cause → Result (List ℕ) Cause
joined codes read = read >>= λ more. Ok (codes ++ more)

-- what Z-characters come to from a place on: these codes, and then an abbreviation and what is after it
abbrev pub ReadsPlain : List ℕ → List ℕ → ℕ → Option Named → List ℕ → Type 0
ReadsPlain alphabets zs from None codes = (expand : ℕ → Result (List ℕ) Cause)
    → read_codes alphabets expand Lower (drop from zs) ≡ Ok codes
ReadsPlain alphabets zs from (Some named) codes = (expand : ℕ → Result (List ℕ) Cause)
    → read_codes alphabets expand Lower (drop from zs)
    ≡ joined codes (expand named.number >>= λ more.
    joined more (read_codes alphabets expand Lower (drop named.after zs)))

-- an abbreviation is one of 96, and is named between a place and the end
abbrev pub IsNamedWithin : ℕ → ℕ → Option Named → Type 0
IsNamedWithin from end None = Unit {0}
IsNamedWithin from end (Some named) = (named.number < most_abbreviations) × (from < named.after) × (named.after ≤ end)
