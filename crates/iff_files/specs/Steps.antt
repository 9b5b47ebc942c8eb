-- What the contracts of functions cite that only this crate calls.
use Rattle.std.specs.Prelude.{◌≡◌, ℕ, List, ◌∷◌, ◌++◌, take, drop, Option, Some, None}
use Rattle.std.specs.Borrow.{Bor}
use Rattle.iff_files.specs.declared.differences.Place.{Place}
use Rattle.iff_files.specs.declared.reading.Parts as code
use Rattle.iff_files.specs.Differences.{packed, unpacked, with_front}
use Rattle.iff_files.specs.SaveFiles.{Parts}

-- the list in a slice that was found
abbrev pub now_of : Option (Bor (List ℕ)) → Option (List ℕ)
now_of None = None
now_of (Some slice) = Some slice.now

abbrev pub parts_of : Option code.Parts → Option Parts
parts_of None = None
parts_of (Some parts) =
    Some (record { header = parts.header.now; memory = parts.memory.now; frames = parts.frames.now })

-- the chunk that was found before, or else a later one
abbrev pub first_found : Option (Bor (List ℕ)) → Option (List ℕ) → Option (List ℕ)
first_found None later = later
first_found (Some chunk) later = Some chunk.now

-- Bytes were appended: with a rest they are what a function makes of that rest.
abbrev pub Appends : (List ℕ → List ℕ) → List ℕ → List ℕ → Type 0
Appends f before after = (rest : List ℕ) → after ++ rest ≡ before ++ f rest

-- The differences of two lists were appended, but for some equal bytes at the end.
abbrev pub AppendsPacked : ℕ → List ℕ → List ℕ → List ℕ → List ℕ → ℕ → Type 0
AppendsPacked equal was now before after left =
    (base bytes : List ℕ) → after ++ packed left base bytes ≡ before ++ packed equal (was ++ base) (now ++ bytes)

-- what memory becomes, of which the bytes before a place are done
abbrev pub whole : List ℕ → Place → List ℕ → Option (List ℕ)
whole memory place ds = with_front (take place.at memory) (unpacked ds place.is_run (drop place.at memory))

abbrev pub go_on : Option Place → (Place → Option (List ℕ)) → Option (List ℕ)
go_on None further = None
go_on (Some place) further = further place

-- One byte of differences was read.
abbrev pub IsStep : List ℕ → Place → ℕ → List ℕ → Option Place → Type 0
IsStep before place byte after result =
    (ds : List ℕ) → whole before place (byte ∷ ds) ≡ go_on result (λ next. whole after next ds)
