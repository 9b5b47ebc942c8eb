-- The states that a story keeps by `save_undo`, as save files, the newest last.
use Rattle.std.specs.Prelude.{◌&&◌, ◌+◌, ◌-◌, ℕ, nat_le, nat_lt, if◌then◌else◌, List, [], ◌∷◌, ◌++◌, length, drop, take}
use Rattle.std.specs.Prelude.{map, sum, Bool}

-- a story keeps so many at most
abbrev pub most_kept : ℕ
most_kept = 100

-- and the files that it keeps have so many bytes at most, but for a single one that is greater
abbrev pub most_bytes : ℕ
most_bytes = 524288

-- how many bytes files have
abbrev pub bytes_of : List (List ℕ) → ℕ
bytes_of files = sum (map length files)

-- whether a file of so many bytes can be kept beside others
abbrev pub has_room : ℕ → List (List ℕ) → Bool
has_room bytes kept = nat_lt (length kept) most_kept && nat_le (bytes_of kept + bytes) most_bytes

-- where it cannot, the oldest go, until it can
abbrev pub room_for : ℕ → List (List ℕ) → List (List ℕ)
room_for bytes [] = []
room_for bytes (oldest ∷ kept) = if has_room bytes (oldest ∷ kept) then oldest ∷ kept else room_for bytes kept

abbrev pub with_newest : List ℕ → List (List ℕ) → List (List ℕ)
with_newest file kept = room_for (length file) kept ++ file ∷ []

abbrev pub without_newest : List (List ℕ) → List (List ℕ)
without_newest kept = take (length kept - 1) kept

-- the newest alone, or none
abbrev pub newest : List (List ℕ) → List (List ℕ)
newest kept = drop (length kept - 1) kept
