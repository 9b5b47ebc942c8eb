-- What Z-characters of a text of version 1 or 2 come to, one after another.
use Rattle.std.specs.Prelude.{◌≡◌, ◌<◌, ◌≤◌, ℕ, List, [], ◌∷◌, drop, Option, Some, None, Result, Ok}
use Rattle.std.specs.Prelude.{MatchResult, true, false}
use Rattle.ztext.specs.Reading.{Cause}
use Rattle.ztext.specs.Results.{◌>>=◌}
use Rattle.ztext.specs.Text.{abbreviation_address}
use Rattle.ztext.specs.declared.fault.TextFault.{TextFault}
use Rattle.ztext.specs.declared.fault.TextFault.TheVariants as faults
use Rattle.zcore_versions.specs.LockedTexts.{Expected, Letter, High, Low, Number, has_32_abbreviations, read_locked}
use Rattle.machine_standard_texts.specs.Pieces.{joined}
use Rattle.machine_locked_texts.specs.declared.letters.Expected as declared
use Rattle.machine_locked_texts.specs.declared.letters.Expected.TheVariants as code
use Rattle.machine_locked_texts.specs.declared.letters.Piece.{Piece}
use Rattle.machine_locked_texts.specs.declared.letters.Piece.TheVariants as pieces
use Rattle.machine_locked_texts.specs.declared.letters.Reading.{Reading}
use Rattle.machine_locked_texts.specs.declared.reading.Named.{Named}

-- how many abbreviations version 2 has
abbrev pub fewer_abbreviations : ℕ
fewer_abbreviations = 32

-- what the definitions expect, where the code expects this
abbrev pub expected_of : declared.Expected → Expected
expected_of (code.Letter alphabet) = Letter alphabet
expected_of code.High = High
expected_of (code.Low high) = Low high
expected_of code.Number = Number

-- an alphabet is one of three, and the half of a code is small
abbrev pub IsSmall : declared.Expected → Type 0
IsSmall (code.Letter alphabet) = alphabet < 3
IsSmall (code.Low high) = high < 32
IsSmall _ = Unit {0}

pub record IsRight (reading : Reading) : Type 0 where
  pub lock : reading.lock < 3
  pub expected : IsSmall reading.expected

-- what a Z-character comes to is what the definition answers
abbrev pub Comes : (ℕ → Result (List ℕ) Cause) → Result (List ℕ) Cause → Piece → Type 0
Comes expand read pieces.Nothing = read ≡ Ok []
Comes expand read (pieces.Code c) = read ≡ Ok (c ∷ [])
Comes expand read (pieces.Abbreviation number) = (read ≡ expand number) × (number < fewer_abbreviations)

-- what is read of Z-characters with an alphabet that is locked
abbrev pub read_with : ℕ → (ℕ → Result (List ℕ) Cause) → ℕ → List ℕ → Result (List ℕ) Cause
read_with version expand lock zs = read_locked version expand lock (Letter lock) zs

-- what Z-characters come to from a place on: these codes, and then an abbreviation and what is after it
abbrev pub ReadsPlain : ℕ → List ℕ → ℕ → ℕ → Option Named → List ℕ → Type 0
ReadsPlain version zs from lock None codes = (expand : ℕ → Result (List ℕ) Cause)
    → read_with version expand lock (drop from zs) ≡ Ok codes
ReadsPlain version zs from lock (Some named) codes = (expand : ℕ → Result (List ℕ) Cause)
    → read_with version expand lock (drop from zs)
    ≡ joined codes (expand named.number >>= λ more. joined more (read_with version expand named.lock (drop named.after zs)))

-- the address of an abbreviation's text, or the fault of a story that has no table
abbrev pub FindsLocked : List ℕ → ℕ → Result ℕ TextFault → Type 0
FindsLocked story number result = MatchResult result
    (λ place. (has_32_abbreviations story ≡ true) × (place ≡ abbreviation_address story number))
    (λ fault. (fault ≡ faults.Abbreviation) × (has_32_abbreviations story ≡ false))

-- an abbreviation is one of 32, and is named between a place and the end
abbrev pub IsNamedWithin : ℕ → ℕ → Option Named → Type 0
IsNamedWithin from end None = Unit {0}
IsNamedWithin from end (Some named) =
    (named.number < fewer_abbreviations) × (named.lock < 3) × (from < named.after) × (named.after ≤ end)

-- what is left of a text: an abbreviation, and what is after it
abbrev pub rest_of : ℕ → (ℕ → Result (List ℕ) Cause) → List ℕ → Option Named → Result (List ℕ) Cause
rest_of version expand zs None = Ok []
rest_of version expand zs (Some named) = expand named.number
    >>= λ more. joined more (read_with version expand named.lock (drop named.after zs))
