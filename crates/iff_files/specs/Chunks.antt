-- Chunks of a file (Quetzal 1.4, section 8): a name of four letters, the length of the contents, the contents, and a
-- byte 0 more if that length is odd.
use Rattle.std.specs.Prelude.{◌+◌, ◌*◌, ◌/◌, ◌%◌, ◌||◌, ℕ, zero, suc, nat_eq, nat_lt, Bool, if◌then◌else◌, codes}
use Rattle.std.specs.Prelude.{List, [], ◌∷◌, ◌++◌, length, take, slice_index, Option, Some, None}
use Rattle.std.specs.List.{starts_with}
use Rattle.std.specs.Option.{option_and_then, option_map}
use Rattle.iff_files.specs.declared.chunks.Part.{Part}
use Rattle.iff_files.specs.declared.chunks.Part.TheVariants.{Header, Memory, Frames}

-- Written

-- a number in four bytes, the high one first
abbrev pub four : ℕ → List ℕ
four n = n / 256 / 256 / 256 ∷ n / 256 / 256 % 256 ∷ n / 256 % 256 ∷ n % 256 ∷ []

abbrev pub padding : ℕ → List ℕ
padding zero = []
padding (suc n) = 0 ∷ []

unfoldable pub chunk : List ℕ → List ℕ → List ℕ
chunk name contents = name ++ (four (length contents) ++ (contents ++ padding (length contents % 2)))

-- Read

-- the length that bytes 4 to 7 of a chunk state
abbrev pub stated : List ℕ → ℕ
stated bytes =
    ((slice_index bytes 4 * 256 + slice_index bytes 5) * 256 + slice_index bytes 6) * 256 + slice_index bytes 7

-- a chunk without its padding
abbrev pub first_chunk : List ℕ → List ℕ
first_chunk bytes = take (8 + stated bytes) bytes

-- The chunks of bytes of which the first few are skipped. None if a length passes the end. Fewer than eight bytes at
-- the end are no chunk.
unfoldable pub chunks_after : ℕ → List ℕ → Option (List (List ℕ))
chunks_after skipped [] = Some []
chunks_after (suc skipped) (b ∷ bytes) = chunks_after skipped bytes
chunks_after zero (b ∷ bytes) =
    if nat_lt (length (b ∷ bytes)) 8 then Some []
    else (
    if nat_lt (length (b ∷ bytes)) (8 + stated (b ∷ bytes)) then None
    else option_map (λ chunks. first_chunk (b ∷ bytes) ∷ chunks)
    (chunks_after (7 + stated (b ∷ bytes) + stated (b ∷ bytes) % 2) bytes))

-- whether a chunk holds a part of a save file
abbrev pub holds : Part → List ℕ → Bool
holds Header bytes = starts_with nat_eq bytes (codes "IFhd")
holds Memory bytes = starts_with nat_eq bytes (codes "CMem") || starts_with nat_eq bytes (codes "UMem")
holds Frames bytes = starts_with nat_eq bytes (codes "Stks")

-- the first chunk that holds a part
abbrev pub found : Part → List (List ℕ) → Option (List ℕ)
found part [] = None
found part (c ∷ chunks) = if holds part c then Some c else found part chunks

abbrev pub part_in : Part → List ℕ → Option (List ℕ)
part_in part bytes = option_and_then (found part) (chunks_after 0 bytes)
