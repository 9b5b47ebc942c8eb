-- How a text's faults name the causes of the definitions. Want of memory may come in place of any answer.
use Rattle.std.specs.Prelude.{◌≡◌, ℕ, true, false, List, Vec, Result, Ok, Err}
use Rattle.std.specs.List.{list_all}
use Rattle.ztext.specs.declared.fault.TextFault.{TextFault}
use Rattle.ztext.specs.declared.fault.TextFault.TheVariants as faults
use Rattle.ztext.specs.Alphabets.{is_printable}
use Rattle.ztext.specs.Reading.{Cause, Character, End, Abbreviation}
use Rattle.ztext.specs.Text.{encoded, HasCause}
use Rattle.ztext.specs.Abbreviations.{encoded_with}

-- what is refused by a fault, where the definition answers `read`
abbrev pub FailsText : {Y : Type 0} → TextFault → Result Y Cause → Type 0
FailsText faults.Character read = read ≡ Err Character
FailsText faults.End read = read ≡ Err End
FailsText faults.Abbreviation read = read ≡ Err Abbreviation
FailsText faults.Memory read = Unit {0}

-- what a function returned, seen by `view`, is what the definition answers
abbrev pub GivesText : {X Y : Type 0} → (X → Y) → Result X TextFault → Result Y Cause → Type 0
GivesText view (Ok x) read = read ≡ Ok (view x)
GivesText view (Err fault) read = FailsText fault read

-- the cause of a fault stands at an address of a story
abbrev pub HasFault : List ℕ → ℕ → TextFault → Type 0
HasFault story at faults.Character = HasCause story at Character
HasFault story at faults.End = HasCause story at End
HasFault story at faults.Abbreviation = HasCause story at Abbreviation
HasFault story at faults.Memory = Unit {0}

-- what is answered for a text whose Z-text is this: the bytes, or Z1 exactly where a character is not printable
abbrev pub EncodesTo : {Z : Type 0} → List ℕ → List ℕ → Result (Vec ℕ Z) TextFault → Type 0
EncodesTo z_text text (Ok bytes) = (list_all is_printable text ≡ true) × (bytes.items ≡ z_text)
EncodesTo z_text text (Err faults.Character) = list_all is_printable text ≡ false
EncodesTo z_text text (Err faults.Memory) = list_all is_printable text ≡ true
EncodesTo z_text text (Err faults.End) = ⊥
EncodesTo z_text text (Err faults.Abbreviation) = ⊥

abbrev pub Encodes : {Z : Type 0} → List ℕ → Result (Vec ℕ Z) TextFault → Type 0
Encodes text result = EncodesTo (encoded text) text result

abbrev pub EncodesWith : {Z : Type 0} → List (List ℕ) → List ℕ → Result (Vec ℕ Z) TextFault → Type 0
EncodesWith abbreviations text result = EncodesTo (encoded_with abbreviations text) text result
