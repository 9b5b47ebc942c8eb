-- What the values of the code stand for.
use Rattle.std.specs.Prelude.{◌≡◌, ◌+◌, ◌-◌, ◌/◌, ◌≤◌, ◌<◌, ℕ, List, [], ◌∷◌, ◌++◌, length, map, replicate}
use Rattle.std.specs.Prelude.{Bool, false, nat_le, Option, Some, None}
use Rattle.std.specs.List.{flat_map}
use Rattle.std.specs.Global.{Vec}
use Rattle.ztext.specs.Bytes.{most_abbreviations}
use Rattle.zcore.specs.declared.header.Version.{Version}
use Rattle.zcore.specs.Header.{scale_of}
use Rattle.meaning.specs.declared.places.Places.{Places}
use Rattle.meaning.specs.Places.{empty_text_place, routines_place}
use Rattle.meaning.specs.Resolved.{RoutineOf, ProgramOf}
use Rattle.meaning.specs.Accepted.{IsAccepted}
use Rattle.meaning.specs.Printable.{HasPrintableTexts}
use Rattle.code_items.specs.Statements.{routine_items}
use Rattle.code.specs.TableLaws.{AreProper}
use Rattle.code_drafts.specs.Addresses.{Addresses, Sizes}
use Rattle.code.specs.Bytes.{code_size, code_bytes}
use Rattle.code.specs.HeldProgram.{sizes_of}
use Rattle.code.specs.Written.{CodeOf}
use Rattle.story_file.specs.Layout.{aligned, addresses_from, fault_texts, greatest_length, story_of, word}
use Rattle.zcore.specs.Layout.{greatest_word}

-- a program that a story of this version can hold
pub record FitsStory (version : Version) (p : ProgramOf) : Type 0 where
  pub accepted : IsAccepted p
  pub printable : HasPrintableTexts p
  pub placed : routines_place p ≤ greatest_word
  pub within : length (story_of version p) ≤ greatest_length version

-- a program that a story can hold, unless packed addresses do not reach the end of the story
pub record FitsTables (p : ProgramOf) : Type 0 where
  pub accepted : IsAccepted p
  pub printable : HasPrintableTexts p
  pub placed : routines_place p ≤ greatest_word

-- the story of a program, or nothing where packed addresses do not reach its end
abbrev pub AnswersStory : Version → ProgramOf → Option (Vec ℕ) → Type 0
AnswersStory version p None = greatest_length version < length (story_of version p)
AnswersStory version p (Some v) =
    (v.items ≡ story_of version p) × (length (story_of version p) ≤ greatest_length version)

-- a program whose objects a story can hold
pub record ObjectsFit (p : ProgramOf) : Type 0 where
  pub few : length p.objects ≤ 2000
  pub proper : AreProper p.objects
  pub defaults : length p.defaults ≡ 63
  pub placed : routines_place p ≤ greatest_word

-- the places that a header tells
pub record AreWords (at : Places) : Type 0 where
  pub globals : at.globals < 65536
  pub defaults : at.defaults < 65536
  pub dictionary : at.dictionary < 65536
  pub start : at.start < 65536

-- the code of a routine, ready to be written
abbrev pub code_of : Sizes → RoutineOf → CodeOf
code_of sizes r = record { locals = r.locals; sizes = sizes; items = routine_items r }

-- the code of each routine of a program
abbrev pub codes_in : ProgramOf → List CodeOf
codes_in p = map (code_of (sizes_of p)) p.routines

-- the number of its locals is a byte
abbrev pub IsReadyCode : CodeOf → Type 0
IsReadyCode c = c.locals < 256

abbrev pub code_part : Addresses → CodeOf → List ℕ
code_part a c = c.locals ∷ code_bytes c.sizes a c.items

abbrev pub part_size : CodeOf → ℕ
part_size c = 1 + code_size c.sizes c.items

abbrev pub bytes_in : Vec ℕ → List ℕ
bytes_in text = text.items

abbrev pub encoded_length : Vec ℕ → ℕ
encoded_length text = length text.items

-- the packed addresses of parts of these sizes
abbrev pub packed_from : ℕ → ℕ → List ℕ → List ℕ
packed_from scale at sizes = map (λ address. address / scale) (addresses_from scale at sizes)

-- where parts of these sizes end, up to a multiple
abbrev pub end_from : ℕ → ℕ → List ℕ → ℕ
end_from scale at [] = aligned scale at
end_from scale at (size ∷ sizes) = end_from scale (aligned scale at + size) sizes

-- where a part ends that follows an address, or nothing where packed addresses do not reach that end
abbrev pub EndsAt : Version → ℕ → ℕ → Option ℕ → Type 0
EndsAt version at size None = greatest_length version < aligned (scale_of version) at + size
EndsAt version at size (Some end) =
    (end ≡ aligned (scale_of version) at + size) × (end ≤ greatest_length version)

-- how many bytes the parts of the story of a program have that stand at packed addresses
abbrev pub part_sizes : ProgramOf → List ℕ
part_sizes p = map part_size (codes_in p) ++ map length fault_texts

-- packed addresses reach the end of the story of a program
abbrev pub reaches_end : Version → ProgramOf → Bool
reaches_end version p =
    nat_le (end_from (scale_of version) (routines_place p) (part_sizes p)) (greatest_length version)

-- the code of the routines of a program, or nothing where packed addresses do not reach the end of its story
abbrev pub AnswersCodes : Version → ProgramOf → Option (Vec CodeOf) → Type 0
AnswersCodes version p None = reaches_end version p ≡ false
AnswersCodes version p (Some codes) = codes.items ≡ codes_in p

abbrev pub half : ℕ → ℕ
half address = address / 2

-- the table of abbreviations whose Z-texts have these sizes and stand one after another from an address on
abbrev pub table_bytes : ℕ → List ℕ → List ℕ
table_bytes at sizes =
    flat_map word (map half (addresses_from 1 at sizes))
    ++ flat_map word (replicate (most_abbreviations - length sizes) (half empty_text_place))
