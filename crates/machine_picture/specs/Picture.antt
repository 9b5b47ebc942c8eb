-- What a story draws in the upper window during a turn, each character in its place (Z-Machine Standards Document 1.1,
-- sections 8.6, 8.7 and 15). It is a second reading of the steps of the turn, beside the text that is shown, and changes
-- nothing: neither what is printed nor the state.
use Rattle.std.specs.Prelude.{◌≡◌, ◌==◌, ◌&&◌, ◌||◌, ◌+◌, ◌-◌, ◌*◌, ◌/◌, ℕ, zero, suc, min, nat_le, nat_lt, Bool, true, false}
use Rattle.std.specs.Prelude.{if◌then◌else◌, List, [], ◌∷◌, ◌++◌, length, take, drop, replicate, slice_index_or}
use Rattle.std.specs.Prelude.{slice_set, Option, Some, None, Result, Ok, Err}
use Rattle.std.specs.List.{flat_map, suffix_len}
use Rattle.zcore.specs.declared.place.Fault.{Fault}
use Rattle.zcore.specs.Parts.{operand_values}
use Rattle.zcore.specs.State.{Pending, State}
use Rattle.zcore.specs.Turn.{StateOfPlay, after_step, first_next, first_state, resumed, weight}
use Rattle.zcore_standard.specs.declared.operations.OlderOperation.TheVariants as older
use Rattle.zcore_standard.specs.declared.operations.StandardOperation.{StandardOperation}
use Rattle.zcore_standard.specs.declared.operations.StandardOperation.TheVariants.{Restart, SplitWindow, SetWindow}
use Rattle.zcore_standard.specs.declared.operations.StandardOperation.TheVariants.{EraseWindow, EraseLine, SetCursor}
use Rattle.zcore_standard.specs.declared.operations.StandardOperation.TheVariants.{OutputStream, PrintTable, Read, ReadChar, Save}
use Rattle.zcore_standard.specs.declared.operations.StandardOperation.TheVariants.{Restore}
use Rattle.zcore_standard.specs.Instruction.{Instruction, decode_row}
use Rattle.zcore_standard.specs.Machine.{begins, begins_after}
use Rattle.zcore_standard.specs.Operations.{row_of, further_at}
use Rattle.zcore_standard.specs.Place.{Here, is_none_open}
use Rattle.zcore_standard.specs.Saving.{given_to, save_form_of}
use Rattle.zcore_standard.specs.Streams.{between, characters_in}
use Rattle.zcore_standard.specs.Unicode.{utf_8}
use Rattle.zcore_standard.specs.Windows.{is_new_line, is_place, without_spaces}
use Rattle.zcore_versions.specs.declared.operations.VersionOperation.{VersionOperation}
use Rattle.zcore_versions.specs.declared.operations.VersionOperation.TheVariants as versions
use Rattle.zcore_versions.specs.Machine.{any_step}
use Rattle.zcore_versions.specs.Operations.{older_at}
use Rattle.zcore_versions.specs.Reading.{any_given}
use Rattle.zcore_versions.specs.Versions.{Story}

-- Where the next character goes, counted from 1, and what was drawn.
pub record Picture : Type 0 where
  -- the characters of row 1, then those of row 2, and so on, as many of each; those after the last are blank
  pub cells : List ℕ
  pub row : ℕ
  pub column : ℕ
  -- how many bytes of the turn's text were looked at
  pub seen : ℕ
  -- after so many bytes of it a table ends, whose rows begin in this column
  pub until : ℕ
  pub margin : ℕ

-- how many characters a row has
abbrev pub columns : ℕ
columns = 255

abbrev pub blank : ℕ
blank = 32

-- nothing is drawn, of a text of which so many bytes were looked at
abbrev pub blank_picture : ℕ → Picture
blank_picture seen = record { cells = []; row = 1; column = 1; seen = seen; until = 0; margin = 0 }

-- Characters

-- the next row or column; there is none after 256, in which nothing is drawn
abbrev pub next : ℕ → ℕ
next number = min (number + 1) 256

-- cells as far as so many, with blank ones after the last
abbrev pub padded : ℕ → List ℕ → List ℕ
padded count cells = cells ++ replicate (count - length cells) blank

abbrev pub with_cell : ℕ → ℕ → List ℕ → List ℕ
with_cell at character cells = slice_set (padded (at + 1) cells) at character

-- the number of the cell at the cursor, from 0
abbrev pub cell_at : Picture → ℕ
cell_at p = (p.row - 1) * columns + (p.column - 1)

abbrev pub is_inside : Picture → Bool
is_inside p = is_place p.row && is_place p.column

-- a character at the cursor; outside it is dropped
abbrev pub with_character : ℕ → Picture → Picture
with_character character p =
    if is_inside p then record p { cells = with_cell (cell_at p) character p.cells } else p

-- and the cursor moves on
abbrev pub written : ℕ → Picture → Picture
written character p = record (with_character character p) { column = next p.column }

abbrev pub put : ℕ → Picture → Picture
put character p =
    if is_new_line character then record p { row = next p.row; column = 1 } else written character p

unfoldable pub drawn : List ℕ → Picture → Picture
drawn [] p = p
drawn (character ∷ characters) p = drawn characters (put character p)

-- The rows of a table are put beside what stands before its column: spaces there only move the cursor.
abbrev pub put_beside : ℕ → ℕ → Picture → Picture
put_beside margin character p =
    if (character == blank) && nat_lt p.column margin then record p { column = next p.column } else put character p

unfoldable pub drawn_beside : ℕ → List ℕ → Picture → Picture
drawn_beside margin [] p = p
drawn_beside margin (character ∷ characters) p = drawn_beside margin characters (put_beside margin character p)

-- bytes are drawn, of which so many are of a table
abbrev pub drawn_after : ℕ → List ℕ → Picture → Picture
drawn_after count bytes p =
    drawn (characters_in between (drop count bytes))
    (drawn_beside p.margin (characters_in between (take count bytes)) p)

-- What was printed since the text was looked at last is drawn, where it is of the upper window.
unfoldable pub with_text : Bool → List ℕ → Picture → Picture
with_text is_drawn text p = record (
    if is_drawn then drawn_after (p.until - p.seen) (drop p.seen text) p else p) { seen = length text }

abbrev pub at_cursor : ℕ → ℕ → Picture → Picture
at_cursor row column p = record p { row = row; column = column }

-- The picture with which a turn begins: what a text shows, which is that of the turn before or empty, with the cursor in the
-- first place. Of the turn's own text so many bytes were looked at.
abbrev pub picture_from : List ℕ → ℕ → Picture
picture_from drawing seen = at_cursor 1 1 (drawn (characters_in between drawing) (blank_picture seen))

-- Opcodes of windows

-- cells from one on up to another are blank
abbrev pub erased : ℕ → ℕ → List ℕ → List ℕ
erased from to cells =
    take from cells ++ (replicate (min to (length cells) - from) blank ++ drop (from + (to - from)) cells)

-- the row of the cursor, from the cursor on
abbrev pub with_line_erased : Picture → Picture
with_line_erased p = record p { cells = erased (cell_at p) (p.row * columns) p.cells }

abbrev pub all_erased : Picture → Picture
all_erased p = at_cursor 1 1 (record p { cells = [] })

-- rows after a number are blank, and a cursor there goes to the first place
abbrev pub cut_after : ℕ → Picture → Picture
cut_after rows p =
    let cut : Picture = record p { cells = take (rows * columns) p.cells } in
    if nat_lt rows p.row then at_cursor 1 1 cut else cut

-- in version 3 all rows are blank (15, `split_window`)
abbrev pub split : ℕ → ℕ → Picture → Picture
split version rows p = if version == 3 then cut_after rows (record p { cells = [] }) else cut_after rows p

abbrev pub selected : ℕ → Picture → Picture
selected window p = if window == 0 then p else at_cursor 1 1 p

-- set_cursor, erase_line and erase_window, the first two in a window
abbrev pub with_cursor : ℕ → ℕ → ℕ → Picture → Picture
with_cursor window row column p =
    if (window == 1) && (is_place row && is_place column) then at_cursor row column p else p

abbrev pub line_erased : ℕ → ℕ → Picture → Picture
line_erased window value p =
    if (window == 1) && ((value == 1) && is_place p.row) then with_line_erased p else p

abbrev pub window_erased : ℕ → Picture → Picture
window_erased erased p = if (erased == 1) || nat_le 65534 erased then all_erased p else p

-- what an operation does to the picture, in which window it is done, with the values of its operands
abbrev pub redrawn : ℕ → StandardOperation → ℕ → List ℕ → Picture → Picture
redrawn version Restart window values p = all_erased p
redrawn version SplitWindow window values p = split version (slice_index_or values 0 0) p
redrawn version SetWindow window values p = selected (slice_index_or values 0 0) p
redrawn version SetCursor window values p =
    with_cursor window (slice_index_or values 0 0) (slice_index_or values 1 0) p
redrawn version EraseLine window values p = line_erased window (slice_index_or values 0 0) p
redrawn version EraseWindow window values p = window_erased (slice_index_or values 0 0) p
redrawn version _ window values p = p

-- An operation

-- one of windows or streams, or a table
abbrev pub is_on_screen : StandardOperation → Bool
is_on_screen Restart = true
is_on_screen SplitWindow = true
is_on_screen SetWindow = true
is_on_screen SetCursor = true
is_on_screen EraseLine = true
is_on_screen EraseWindow = true
is_on_screen OutputStream = true
is_on_screen PrintTable = true
is_on_screen _ = false

-- one that can wait
abbrev pub can_wait : StandardOperation → Bool
can_wait Read = true
can_wait ReadChar = true
can_wait Save = true
can_wait Restore = true
can_wait _ = false

-- whether the text is looked at before it
abbrev pub looks : StandardOperation → Bool
looks operation = is_on_screen operation || can_wait operation

-- what is printed in the upper window, while no stream is open, is drawn
abbrev pub is_drawing : Here → Bool
is_drawing here = is_none_open here.streams && (here.standard_state.window == 1)

-- the picture before an operation
abbrev pub before : Option StandardOperation → Here → List ℕ → Picture → Picture
before None here text p = p
before (Some operation) here text p = if looks operation then with_text (is_drawing here) text p else p

-- What an operation of windows or streams does to the text is nothing that was printed. A table is drawn when the text
-- is looked at next.
abbrev pub redrawn_to : ℕ → StandardOperation → ℕ → List ℕ → ℕ → Picture → Picture
redrawn_to version PrintTable window values long p = record p { until = long; margin = p.column }
redrawn_to version operation window values long p =
    record (redrawn version operation window values p) { seen = long; until = 0 }

-- the picture after an operation on these values, which has led to so long a text
abbrev pub after_values : ℕ → StandardOperation → ℕ → List ℕ → ℕ → Picture → Picture
after_values version operation window values long p =
    if is_on_screen operation then redrawn_to version operation window values long p else p

-- the values of the operands of an instruction, where it is decoded and they can be read
abbrev pub values_in : State → Result (Instruction × ℕ) Fault → List ℕ
values_in s (Err cause) = []
values_in s (Ok x) = after_step (operand_values x.0.operands s) (λ values t. values) (λ place t. [])

-- and after the instruction of one
abbrev pub after : ℕ → Option StandardOperation → Here → State → List ℕ → Picture → Picture
after version None here s text p = p
after version (Some operation) here s text p =
    after_values version operation here.standard_state.window
    (values_in s (decode_row s.memory here.next.program_counter (row_of operation))) (length text) p

-- A step

-- those of versions 1 to 4 by the names that they have in later versions
abbrev pub by_name : Option VersionOperation → Option StandardOperation → Option StandardOperation
by_name None further = further
by_name (Some versions.SplitWindow) further = Some SplitWindow
by_name (Some (versions.Older older.Read)) further = Some Read
by_name (Some (versions.Older older.Save)) further = Some Save
by_name (Some (versions.Older older.Restore)) further = Some Restore
by_name (Some _) further = None

abbrev pub operation_at : Story → List ℕ → ℕ → Option StandardOperation
operation_at story memory at = by_name (older_at story.version memory at) (further_at memory at)

-- the picture before a step from a place and a state
unfoldable pub before_step : Story → Here → State → Picture → Picture
before_step story here s p = before (operation_at story s.memory here.next.program_counter) here s.text p

-- and after it, where it has led to this text
unfoldable pub after_step_to : Story → Here → State → List ℕ → Picture → Picture
after_step_to story here s text p =
    after story.version.number (operation_at story s.memory here.next.program_counter) here s text
    (before_step story here s p)

-- A turn

-- the picture of a turn of at most so many steps
unfoldable pub picture_by : Story → ℕ → Here → State → Picture → Option Picture
picture_by story zero here s p = None
picture_by story (suc count) here s p = after_step (any_step story here s)
    (λ next t. picture_by story count next t (after_step_to story here s t.text p))
    (λ place t. Some (before_step story here s p))

-- a turn draws a picture, from the first one on
pub record Draws (story : Story) (here : Here) (s : State) (first picture : Picture) : Type 0 where
  pub count : ℕ
  pub draws : picture_by story count here s first ≡ Some picture

-- The text

-- a row without the spaces at its end
abbrev pub row_text : List ℕ → List ℕ
row_text cells = flat_map utf_8 (without_spaces cells) ++ 10 ∷ []

unfoldable pub rows_text : ℕ → List ℕ → List ℕ
rows_text zero cells = []
rows_text (suc count) cells = row_text (take columns cells) ++ rows_text count (drop columns cells)

abbrev pub row_count : List ℕ → ℕ
row_count cells = length cells / columns + 1

-- a text without the newlines at its end
unfoldable pub without_lines : List ℕ → List ℕ
without_lines text = take (length text - suffix_len is_new_line text) text

-- the text of a picture: its rows as far as the last in which something is seen
unfoldable pub picture_text : Picture → List ℕ
picture_text p = without_lines (rows_text (row_count p.cells) p.cells)

abbrev pub text_in : Option Picture → List ℕ
text_in None = []
text_in (Some picture) = picture_text picture

-- Whole turns, by the text of what they draw and the one with which they begin

-- a turn has at most as many steps as its weight
unfoldable pub any_drawing : Story → Here → State → List ℕ → List ℕ
any_drawing story here s drawing =
    text_in (picture_by story (weight here.next s) here s (picture_from drawing (length s.text)))

-- that of the opening of a story, as its memory is after loading
unfoldable pub opening_drawing : Story → List ℕ → ℕ → List ℕ
opening_drawing story memory fuel =
    any_drawing story (begins story.loaded.dice [] (first_next memory fuel)) (first_state memory) []

abbrev pub pending_drawing : Story → Option Pending → List ℕ → ℕ → List ℕ → StateOfPlay → List ℕ
pending_drawing story None line fuel drawing play = drawing
pending_drawing story (Some pending) line fuel drawing play =
    after_step (given_to story.loaded (save_form_of story.version.number) (any_given story) pending line fuel (resumed play))
    (λ next s. any_drawing story (begins_after (length s.text) play.standard_state play.kept next) s drawing)
    (λ place s. drawing)

-- and of the turn of what is given to a state of play that waits for it
unfoldable pub drawing_on : Story → List ℕ → ℕ → List ℕ → StateOfPlay → List ℕ
drawing_on story line fuel drawing play = pending_drawing story play.pending line fuel drawing play

-- The status text

-- two texts in lines of their own, unless one is empty
abbrev pub joined : List ℕ → List ℕ → List ℕ
joined [] drawing = drawing
joined line [] = line
joined line drawing = line ++ 10 ∷ drawing
