-- The further opcodes of screen and fonts (Z-Machine Standards Document 1.1, sections 8 and 15). The player writes a
-- transcript, so most of them do nothing.
use Rattle.std.specs.Prelude.{◌&&◌, ◌+◌, ℕ, min, nat_le, if◌then◌else◌, List, [], ◌∷◌, drop, Option, Some, None}
use Rattle.std.specs.List.{count_by}
use Rattle.zcore.specs.declared.place.Fault.TheVariants as faults
use Rattle.zcore.specs.declared.next.Next.{Next}
use Rattle.zcore.specs.Effects.{give_result}
use Rattle.zcore.specs.Parts.{test, is_writable, write_word, goes_on}
use Rattle.zcore.specs.State.{State, Out, ◌>>=◌}
use Rattle.zcore_standard.specs.declared.streams.Stream.{Stream}
use Rattle.zcore_standard.specs.declared.windows.Upper.{Upper}
use Rattle.zcore_standard.specs.Place.{Here}
use Rattle.zcore_standard.specs.Streams.{heard}
use Rattle.zcore_standard.specs.Windows.{is_new_line, row_of, width}

-- The cursor

-- what stands in the window that is selected, of the text that is heard
abbrev pub in_window : Option Upper → List ℕ → List ℕ
in_window None text = text
in_window (Some upper) text = drop upper.from text

-- The row of the cursor, from 1 on. The lower window has no height: its rows are counted from where the turn began.
abbrev pub row_in : Option Upper → List ℕ → ℕ
row_in None text = 1 + count_by is_new_line text
row_in (Some upper) text = row_of upper text

-- where it is, as words; what goes to open streams does not move it (7.1.2.2)
unfoldable pub cursor_row : Here → List ℕ → ℕ
cursor_row here text = min 65535 (row_in here.upper (heard here.streams text))

unfoldable pub cursor_column : Here → List ℕ → ℕ
cursor_column here text = min 65535 (1 + width (in_window here.upper (heard here.streams text)))

-- get_cursor: its row and its column go to a table of two words
unfoldable pub get_cursor : Next → ℕ → ℕ → ℕ → ℕ → State → Out Next
get_cursor here after table row column = do
  _ ← (λ s. test (is_writable s.memory table && is_writable s.memory (table + 3)) faults.Write s)
  _ ← write_word table row
  _ ← write_word (table + 2) column
  goes_on after here.fuel

-- How far from the left edge printing begins. A stream has no edge.
abbrev pub indent_in : List Stream → Option Upper → List ℕ → ℕ
indent_in [] upper text = width (in_window upper text)
indent_in (stream ∷ streams) upper text = 0

unfoldable pub indent_of : Here → List ℕ → ℕ
indent_of here text = indent_in here.streams here.upper text

-- Fonts

-- set_font: the transcript has the normal font 1 only, and font 0 asks which one is set (8.1.2, 8.1.3)
unfoldable pub set_font : Next → ℕ → Option ℕ → ℕ → State → Out Next
set_font here after result font = give_result here after result (if nat_le font 1 then 1 else 0)
