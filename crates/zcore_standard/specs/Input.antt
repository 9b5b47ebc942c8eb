-- Lines that are typed: which a story can be given, their ZSCII codes, and small letters (Z-Machine Standards Document
-- 1.1, sections 3.8, 10.5 and 15, `aread`).
use Rattle.std.specs.Prelude.{◌==◌, ◌&&◌, ◌+◌, ◌-◌, ◌%◌, ℕ, nat_le, nat_lt, Bool, if◌then◌else◌, List, [], ◌∷◌, map, take}
use Rattle.std.specs.Prelude.{Option, Some, None}
use Rattle.std.specs.List.{find, list_all, list_any}
use Rattle.std.specs.Str.{chars, is_utf8}
use Rattle.ztext.specs.Text.{lower_case}
use Rattle.zcore_standard.specs.Characters.{unknown, extra_character}
use Rattle.zcore_standard.specs.Streams.{first_extra, most_extra, zscii_of}
use Rattle.zcore_standard.specs.Unicode.{has_zscii, is_printed}

-- Lines

-- A character that can be typed is printed, and has a ZSCII code, with these characters for the codes from 155 on.
abbrev pub is_typed : List ℕ → ℕ → Bool
is_typed extra character = is_printed character && has_zscii (take most_extra extra) character

-- a line that can be given to a story is UTF-8, and each of its characters can be typed
abbrev pub can_be_typed : List ℕ → List ℕ → Bool
can_be_typed extra line = is_utf8 line && list_all (is_typed extra) (chars line)

-- the text of a line; bytes that are not UTF-8 have none
abbrev pub text_typed : List ℕ → List ℕ
text_typed line = if is_utf8 line then line else []

-- the ZSCII codes of its characters
abbrev pub codes_typed : List ℕ → List ℕ → List ℕ
codes_typed extra line = map (zscii_of extra) (chars (text_typed line))

-- Small letters, of the blocks Latin-1, Latin Extended-A, Greek and Cyrillic, one for a capital as the Unicode Standard
-- has it

-- the first and the last of some capitals that follow one another, and the small letter of the first
abbrev pub capitals : List (ℕ × ℕ × ℕ)
capitals =
    (0xC0, 0xD6, 0xE0) ∷ (0xD8, 0xDE, 0xF8) ∷ (0x130, 0x130, 0x69) ∷ (0x178, 0x178, 0xFF) ∷ (0x37F, 0x37F, 0x3F3) ∷
    (0x386, 0x386, 0x3AC) ∷ (0x388, 0x38A, 0x3AD) ∷ (0x38C, 0x38C, 0x3CC) ∷ (0x38E, 0x38F, 0x3CD) ∷
    (0x391, 0x3A1, 0x3B1) ∷ (0x3A3, 0x3AB, 0x3C3) ∷ (0x3CF, 0x3CF, 0x3D7) ∷ (0x3F4, 0x3F4, 0x3B8) ∷
    (0x3F9, 0x3F9, 0x3F2) ∷ (0x3FD, 0x3FF, 0x37B) ∷ (0x400, 0x40F, 0x450) ∷ (0x410, 0x42F, 0x430) ∷
    (0x4C0, 0x4C0, 0x4CF) ∷ []

-- from the first to the last of these every second character is a capital, and the next one its small letter
abbrev pub pairs : List (ℕ × ℕ)
pairs =
    (0x100, 0x12E) ∷ (0x132, 0x136) ∷ (0x139, 0x147) ∷ (0x14A, 0x176) ∷ (0x179, 0x17D) ∷ (0x370, 0x372) ∷
    (0x376, 0x376) ∷ (0x3D8, 0x3EE) ∷ (0x3F7, 0x3F7) ∷ (0x3FA, 0x3FA) ∷ (0x460, 0x480) ∷ (0x48A, 0x4BE) ∷
    (0x4C1, 0x4CD) ∷ (0x4D0, 0x4FE) ∷ []

abbrev pub is_among : ℕ → ℕ × ℕ × ℕ → Bool
is_among character row = nat_le row.0 character && nat_le character row.1

abbrev pub begins_pair : ℕ → ℕ × ℕ → Bool
begins_pair character row =
    nat_le row.0 character && nat_le character row.1 && ((character - row.0) % 2 == 0)

abbrev pub small_in : ℕ → Option (ℕ × ℕ × ℕ) → ℕ
small_in character None = character
small_in character (Some row) = row.2 + (character - row.0)

-- the small letter of a capital; any other character itself
unfoldable pub small_character : ℕ → ℕ
small_character character =
    if list_any (begins_pair character) pairs then character + 1
    else small_in character (find (is_among character) capitals)

-- what has no code is a question mark
abbrev pub found_or : ℕ → ℕ → ℕ
found_or code found = if found == unknown then code else found

-- the code of the small letter, where a code is that of a capital and its small letter has one; else the code itself
unfoldable pub small : List ℕ → ℕ → ℕ
small extra code =
    if nat_lt code first_extra then lower_case code
    else found_or code (zscii_of extra (small_character (extra_character extra code)))
