-- Memory as its differences from the story's (Quetzal 1.4, section 3): bytes are combined by exclusive or; a 0 is
-- followed by the number of further zeros; zeros at the end are left out.
use Rattle.std.specs.Prelude.{◌==◌, ◌+◌, ◌/◌, ◌%◌, ℕ, zero, suc, nat_lt, Bool, true, false, if◌then◌else◌, bit_xor}
use Rattle.std.specs.Prelude.{List, [], ◌∷◌, ◌++◌, length, take, drop, slice_index, Option, Some, None}

-- Written

-- runs of 256 equal bytes
abbrev pub full_runs : ℕ → List ℕ → List ℕ
full_runs zero rest = rest
full_runs (suc runs) rest = 0 ∷ 255 ∷ full_runs runs rest

-- a run of fewer, or none
abbrev pub short_run : ℕ → List ℕ → List ℕ
short_run zero rest = rest
short_run (suc more) rest = 0 ∷ more ∷ rest

-- a number of equal bytes, and then a rest
unfoldable pub with_equal : ℕ → List ℕ → List ℕ
with_equal count rest = full_runs (count / 256) (short_run (count % 256) rest)

-- the differences of bytes from others, after a number of equal bytes that are not written yet
unfoldable pub packed : ℕ → List ℕ → List ℕ → List ℕ
packed equal [] bytes = []
packed equal (b ∷ base) [] = []
packed equal (b ∷ base) (c ∷ bytes) =
    if b == c then packed (equal + 1) base bytes
    else with_equal equal (bit_xor b c ∷ packed 0 base bytes)

-- Read

abbrev pub with_front : List ℕ → Option (List ℕ) → Option (List ℕ)
with_front front None = None
with_front front (Some bytes) = Some (front ++ bytes)

-- The bytes with these differences from others. After a 0, `is_run` says that its count comes next. None if a count is
-- missing, or if there are more bytes than those others.
unfoldable pub unpacked : List ℕ → Bool → List ℕ → Option (List ℕ)
unpacked [] true base = None
unpacked [] false base = Some base
unpacked (d ∷ ds) true base =
    if nat_lt d (length base) then with_front (take (d + 1) base) (unpacked ds false (drop (d + 1) base)) else None
unpacked (d ∷ ds) false base =
    if d == 0 then unpacked ds true base
    else (
    if nat_lt 0 (length base) then with_front (bit_xor (slice_index base 0) d ∷ []) (unpacked ds false (drop 1 base))
    else None)
