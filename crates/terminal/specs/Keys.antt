-- What is typed at a terminal, without the sequences that it sends for keys such as the arrows: ESC, `[`, numbers and a
-- last byte from `@` on, or ESC, `O` and a byte (ECMA-48, and the modes of the VT100). The end of a line always stays.
use Rattle.std.specs.Prelude.{ℕ, ◌==◌, ◌&&◌, ◌||◌, nat_le, not, Bool, if◌then◌else◌, List, [], ◌∷◌}
use Rattle.terminal.specs.declared.keys.Reading.{Reading}
use Rattle.terminal.specs.declared.keys.Reading.TheVariants.{Text, Escape, Numbers, Last}

-- whether a byte is no part of a sequence, where it is read
abbrev pub is_kept : Reading → ℕ → Bool
is_kept Text byte = not (byte == 27)
is_kept Escape byte = not (byte == 27) && (not (byte == 91) && not (byte == 79))
is_kept Numbers byte = byte == 10
is_kept Last byte = byte == 10

-- where the next byte is read, after one that is no ESC
abbrev pub after_byte : Reading → ℕ → Reading
after_byte Text byte = Text
after_byte Escape byte = if byte == 91 then Numbers else (if byte == 79 then Last else Text)
after_byte Numbers byte = if (byte == 10) || nat_le 64 byte then Text else Numbers
after_byte Last byte = Text

abbrev pub reading_after : Reading → ℕ → Reading
reading_after reading byte = if byte == 27 then Escape else after_byte reading byte

unfoldable pub without_keys_from : Reading → List ℕ → List ℕ
without_keys_from reading [] = []
without_keys_from reading (byte ∷ bytes) =
    if is_kept reading byte then byte ∷ without_keys_from (reading_after reading byte) bytes
    else without_keys_from (reading_after reading byte) bytes

abbrev pub without_keys : List ℕ → List ℕ
without_keys = without_keys_from Text
