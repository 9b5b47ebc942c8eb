-- Words for reading a text that names abbreviations.
use Rattle.std.specs.Prelude.{◌≡◌, ◌+◌, ◌-◌, ◌<◌, ◌≤◌, ℕ, List, ◌++◌, length, take, drop, slice_index_or}
use Rattle.std.specs.Prelude.{false, if◌then◌else◌, Option, Some, None, Result, Ok, Err}
use Rattle.ztext.specs.declared.expansions.Expansion.{Expansion}
use Rattle.ztext.specs.declared.expansions.Expansions.{Expansions}
use Rattle.ztext.specs.declared.fault.TextFault.{TextFault}
use Rattle.ztext.specs.declared.reading.Named.{Named}
use Rattle.ztext.specs.Results.{◌>>=◌}
use Rattle.ztext.specs.Reading.{Cause, Lower, reads}
use Rattle.ztext.specs.Text.{abbreviation}
use Rattle.ztext.specs.Faults.{FailsText}
use Rattle.ztext.specs.Bytes.{most_abbreviations}

-- characters, and then those that Z-characters print, of all of them the first `most`
abbrev pub read_on : (ℕ → Result (List ℕ) Cause) → ℕ → List ℕ → List ℕ → Result (List ℕ) Cause
read_on expand most text zs = reads expand Lower zs >>= λ more. Ok (take most (text ++ more))

-- characters, and then those of an abbreviation, of all of them the first `most`
abbrev pub expanded : (ℕ → Result (List ℕ) Cause) → ℕ → List ℕ → ℕ → Result (List ℕ) Cause
expanded expand most text number = expand number >>= λ more. Ok (take most (text ++ more))

-- the same, and then those of what stands behind the abbreviation
abbrev pub rest_of : (ℕ → Result (List ℕ) Cause) → ℕ → List ℕ → List ℕ → Named → Result (List ℕ) Cause
rest_of expand most text zs named = expand named.number
    >>= λ more. read_on expand most (text ++ more) (drop named.after zs)

-- What was read from a place on: all that is left, or what stands in front of an abbreviation.
abbrev pub ReadsOn : (ℕ → Result (List ℕ) Cause) → ℕ → List ℕ → List ℕ → List ℕ → ℕ
    → Result (Option Named) TextFault → Type 0
ReadsOn expand most old new zs from (Ok None) = read_on expand most old (drop from zs) ≡ Ok new
ReadsOn expand most old new zs from (Ok (Some named)) =
    read_on expand most old (drop from zs) ≡ rest_of expand most new zs named
ReadsOn expand most old new zs from (Err fault) = FailsText fault (read_on expand most old (drop from zs))

-- an abbreviation is one of 96, and is named between a place and the end
abbrev pub IsNamedWithin : ℕ → ℕ → Option Named → Type 0
IsNamedWithin from end None = Unit {0}
IsNamedWithin from end (Some named) = (named.number < most_abbreviations) × (from < named.after) × (named.after ≤ end)

-- the place that is noted for an abbreviation
abbrev pub place_of : Expansions → ℕ → Option Expansion
place_of known number =
    if slice_index_or known.known number false
    then Some (slice_index_or known.places number (record { start = 0; length = 0 })) else None

-- A text has the characters of an abbreviation at a place, as far as it had room for `most` from there on.
pub record Has (story : List ℕ) (most : ℕ) (text : List ℕ) (number : ℕ) (place : Expansion) : Type 0 where
  pub characters : List ℕ
  pub read : abbreviation story number ≡ Ok characters
  pub within : place.start + place.length ≤ length text
  pub kept : take place.length (drop place.start text) ≡ take (most - place.start) characters

-- where a place is noted for an abbreviation, there a text has its characters
abbrev pub Keeps : List ℕ → ℕ → List ℕ → Expansions → Type 0
Keeps story most text known = (number : ℕ) (place : Expansion) → place_of known number ≡ Some place
    → Has story most text number place
