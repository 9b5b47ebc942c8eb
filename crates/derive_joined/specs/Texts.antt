-- The text of a source of several files, and where each of its bytes stands.
use Rattle.std.specs.Prelude.{◌≡◌, ◌⊎◌, ◌+◌, ◌-◌, ℕ, nat_le, List, [], ◌∷◌, ◌++◌, length, take, drop, Option, Some, None, if◌then◌else◌}
use Rattle.std.specs.List.{slice_index_or}
use Rattle.derive_joined.specs.declared.part.Part.{Part}
use Rattle.derive_joined.specs.declared.part.Part.TheVariants as p
use Rattle.derive_joined.specs.declared.part.Run.{Run}
use Rattle.derive_joined.specs.declared.texts.Spot.{Spot}

abbrev pub bytes_of : List (List ℕ) → Run → List ℕ
bytes_of files run = take run.length (drop run.begin (slice_index_or files run.file []))

-- the bytes of all parts, with a line end after each, so that a comment ends there
abbrev pub text_of : List (List ℕ) → List Part → List ℕ
text_of files [] = []
text_of files (p.Bytes run ∷ parts) = bytes_of files run ++ 10 ∷ text_of files parts
text_of files (p.Asked named ∷ parts) = text_of files parts

-- where the byte of an offset stands; the line end after a part is where its bytes end
abbrev pub spot_of : List (List ℕ) → List Part → ℕ → Option Spot
spot_of files [] offset = None
spot_of files (p.Bytes run ∷ parts) offset =
    if nat_le offset (length (bytes_of files run)) then Some (record { file = run.file; offset = run.begin + offset })
    else spot_of files parts (offset - (length (bytes_of files run) + 1))
spot_of files (p.Asked named ∷ parts) offset = spot_of files parts offset

-- the byte of a file at a spot, or a line end after a part
abbrev pub IsByteAt : List (List ℕ) → ℕ → Spot → Type 0
IsByteAt files b spot = (b ≡ slice_index_or (slice_index_or files spot.file []) spot.offset 0) ⊎ (b ≡ 10)
