-- A text of the story, without marks, as it is shown: no byte of it is a control character but a new line, so that a
-- story sends no sequences to the terminal.
use Rattle.std.specs.Prelude.{ℕ, ◌==◌, ◌&&◌, ◌||◌, nat_le, nat_lt, not, Bool, if◌then◌else◌, List, [], ◌∷◌}

abbrev pub new_line : ℕ
new_line = 10

-- a control character of ASCII that is no new line
abbrev pub is_control : ℕ → Bool
is_control byte = (nat_lt byte 32 && not (byte == new_line)) || (byte == 127)

-- the second byte in UTF-8 of a control character from U+0080 to U+009F, after the first
abbrev pub is_control_after : ℕ → ℕ → Bool
is_control_after before byte = (before == 0xC2) && (nat_le 0x80 byte && nat_lt byte 0xA0)

-- A control character of ASCII is shown as `?`, and one from U+0080 on as U+00BF, `¿`.
abbrev pub shown_byte : ℕ → ℕ → ℕ
shown_byte before byte = if is_control byte then 63 else (if is_control_after before byte then 0xBF else byte)

-- a text after a byte
unfoldable pub shown_after : ℕ → List ℕ → List ℕ
shown_after before [] = []
shown_after before (byte ∷ bytes) = shown_byte before byte ∷ shown_after byte bytes

abbrev pub shown : List ℕ → List ℕ
shown text = shown_after 0 text
