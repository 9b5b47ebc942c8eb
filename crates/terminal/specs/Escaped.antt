-- The characters that a message shows by their numbers, in Unicode's terms.
use Rattle.std.specs.Prelude.{◌==◌, ◌||◌, ◌&&◌, ℕ, nat_le, Bool}

-- a number is one of those from one to another
abbrev pub is_from : ℕ → ℕ → ℕ → Bool
is_from first last number = nat_le first number && nat_le number last

-- control characters (general category Cc): C0, and DELETE with C1
abbrev pub is_control : ℕ → Bool
is_control sign = is_from 0x00 0x1F sign || is_from 0x7F 0x9F sign

-- LINE SEPARATOR and PARAGRAPH SEPARATOR (general categories Zl and Zp)
abbrev pub is_separator : ℕ → Bool
is_separator sign = is_from 0x2028 0x2029 sign

-- bidirectional controls (property Bidi_Control): the marks of Arabic, of left to right and of right to left; embeddings
-- and overrides with their end, isolates with theirs
abbrev pub turns_direction : ℕ → Bool
turns_direction sign =
    (sign == 0x061C) || is_from 0x200E 0x200F sign || is_from 0x202A 0x202E sign || is_from 0x2066 0x2069 sign

-- ZERO WIDTH SPACE, NON-JOINER and JOINER, WORD JOINER with the invisible operators, ZERO WIDTH NO-BREAK SPACE
abbrev pub has_no_width : ℕ → Bool
has_no_width sign = is_from 0x200B 0x200D sign || is_from 0x2060 0x2064 sign || (sign == 0xFEFF)

abbrev pub is_escaped : ℕ → Bool
is_escaped sign = is_control sign || is_separator sign || turns_direction sign || has_no_width sign
