-- The upper window (Z-Machine Standards Document 1.1, sections 8.6, 8.7 and 15). The player writes a transcript, so what
-- is printed in that window is the end of the turn's text, and is cut again: only a read in that window shows it, so that
-- menus can be read. The window has no width and no height.
use Rattle.std.specs.Prelude.{◌==◌, ◌&&◌, ◌||◌, ◌+◌, ◌-◌, ℕ, nat_le, nat_lt, Bool, if◌then◌else◌, List, [], ◌∷◌, ◌++◌}
use Rattle.std.specs.Prelude.{length, take, drop, replicate, Option, Some, None}
use Rattle.std.specs.List.{after_last, count_by, suffix_len}
use Rattle.zcore.specs.declared.place.Limit.TheVariants as limits
use Rattle.zcore.specs.declared.place.Place.TheVariants as places
use Rattle.zcore.specs.Layout.{text_limit}
use Rattle.zcore.specs.State.{State, Out, done, halt, ◌>>=◌}
use Rattle.zcore_standard.specs.declared.streams.Stream.{Stream}
use Rattle.zcore_standard.specs.declared.windows.Upper.{Upper}
use Rattle.zcore_standard.specs.Place.{Here, is_none_open}

-- The texts of the two windows

-- the text of a turn without that of the upper window
abbrev pub lower : Option Upper → List ℕ → List ℕ
lower None text = text
lower (Some upper) text = take upper.from text

-- a window that begins after so many bytes of the text: it is empty, with the cursor in row 1
abbrev pub begun_at : ℕ → Upper
begun_at place = record { from = place; mark = place; row = 1 }

abbrev pub is_space : ℕ → Bool
is_space byte = byte == 32

abbrev pub is_new_line : ℕ → Bool
is_new_line byte = byte == 10

-- whether a byte of UTF-8 begins a character
abbrev pub begins_character : ℕ → Bool
begins_character byte = nat_lt byte 0x80 || nat_le 0xC0 byte

-- a text without the spaces at its end
unfoldable pub without_spaces : List ℕ → List ℕ
without_spaces text = take (length text - suffix_len is_space text) text

-- what comes after the last newline of a text
unfoldable pub last_line : List ℕ → List ℕ
last_line text = after_last is_new_line text

-- how many characters the last line has
unfoldable pub width : List ℕ → ℕ
width text = count_by begins_character (last_line text)

-- a text that goes on in a line of its own: a newline is added unless the last line is empty
unfoldable pub with_new_line : List ℕ → List ℕ
with_new_line text = if length (last_line text) == 0 then text else text ++ 10 ∷ []

-- The cursor

-- the row of the cursor: the one that was set, and another for each newline after that
unfoldable pub row_of : Upper → List ℕ → ℕ
row_of upper text = upper.row + count_by is_new_line (drop upper.mark text)

-- A text without spaces at its end, and then as many as take the cursor to a column, in the row where it is or in
-- another one. Nothing that can be seen is lost: where text reaches that column, the cursor goes to a new line.
unfoldable pub with_cursor : Bool → ℕ → List ℕ → List ℕ
with_cursor is_in_row column bare =
    let kept = if is_in_row && nat_lt (width bare) column then bare else with_new_line bare in
    kept ++ replicate (column - 1 - width kept) 32

-- the text of a turn, where the cursor of the upper window is set
unfoldable pub drawn : Upper → ℕ → ℕ → List ℕ → List ℕ
drawn upper row column text =
    take upper.from text
    ++ with_cursor (row_of upper text == row) column (without_spaces (drop upper.from text))

-- the text of a turn becomes another, or ends the turn where that is too long
unfoldable pub redraw : List ℕ → State → Out (Unit {0})
redraw text s =
    if nat_le (length text) text_limit then done tt (record s { text = text })
    else halt (places.Limit limits.Text) s

unfoldable pub put_cursor : Upper → ℕ → ℕ → State → Out Upper
put_cursor upper row column = do
  _ ← (λ s. redraw (drawn upper row column s.text) s)
  (λ s. done (record upper { mark = length s.text; row = row }) s)

abbrev pub cursor_to : Here → Upper → ℕ → ℕ → State → Out Here
cursor_to here upper row column = do
  moved ← put_cursor upper row column
  done (record here { upper = Some moved })

-- The opcodes. While a stream is open they leave the upper window as it is.

-- the upper window, where it is there and no stream is open
abbrev pub open_upper : Here → Option Upper
open_upper here = if is_none_open here.streams then here.upper else None

-- rows and columns are counted from 1 (8.7.2.3); there are 255 at most
abbrev pub is_place : ℕ → Bool
is_place number = nat_le 1 number && nat_le number 255

abbrev pub cursor_in : Option Upper → Here → ℕ → ℕ → State → Out Here
cursor_in None here row column = done here
cursor_in (Some upper) here row column = cursor_to here upper row column

-- where the turn goes on after set_cursor
unfoldable pub set_cursor : Here → ℕ → ℕ → State → Out Here
set_cursor here row column =
    if is_place row && is_place column then cursor_in (open_upper here) here row column else done here

-- the window as it is, or one that begins at a place
abbrev pub or_begun : Option Upper → ℕ → Upper
or_begun None place = begun_at place
or_begun (Some upper) place = upper

abbrev pub settled_in : List Stream → Here → State → Out Here
settled_in [] here =
    if here.standard_state.window == 0
    then (λ s. done (record here { upper = None }) (record s { text = lower here.upper s.text }))
    else (λ s. done (record here { upper = Some (or_begun here.upper (length s.text)) }) s)
settled_in (stream ∷ streams) here = done here

-- where no stream is open, the upper window is there exactly if it is selected
unfoldable pub settled : Here → State → Out Here
settled here = settled_in here.streams here

abbrev pub with_window : Here → ℕ → Here
with_window here window = record here { standard_state = record here.standard_state { window = window } }

-- the upper window is selected: where it is there, its cursor goes to the first place (8.7.2)
abbrev pub select_upper : Option Upper → Here → State → Out Here
select_upper None here = settled here
select_upper (Some upper) here = cursor_to here upper 1 1

unfoldable pub set_window : Here → ℕ → State → Out Here
set_window here window =
    if window == 0 then settled (with_window here 0)
    else select_upper (open_upper here) (with_window here 1)

-- the upper window is empty, and its cursor in row 1
abbrev pub erased_in : Option Upper → Here → State → Out Here
erased_in None here = done here
erased_in (Some upper) here = λ s.
    done (record here { upper = Some (begun_at upper.from) }) (record s { text = take upper.from s.text })

unfoldable pub erase_upper : Here → State → Out Here
erase_upper here = erased_in (open_upper here) here

-- -1 and -2 clear both windows, and -1 also selects the lower one (15, `erase_window`)
unfoldable pub erase_window : Here → ℕ → State → Out Here
erase_window here window =
    if (window == 1) || (window == 65534) then erase_upper here
    else (if window == 65535 then set_window here 0 else done here)

-- a window of no lines is empty; other sizes change nothing
unfoldable pub split_window : Here → ℕ → State → Out Here
split_window here lines = if lines == 0 then erase_upper here else done here

-- A read

-- the text of a turn, where that of the upper window is shown: in lines of its own, without the spaces at its end
unfoldable pub with_upper : Upper → List ℕ → List ℕ
with_upper upper text =
    let bare = without_spaces (drop upper.from text) in
    let before = take upper.from text in
    if length bare == 0 then before else with_new_line (with_new_line before ++ bare)

unfoldable pub show_text : Upper → State → Out (Unit {0})
show_text upper s = redraw (with_upper upper s.text) s

abbrev pub show_in : Option Upper → ℕ → State → Out (Unit {0})
show_in None window = done tt
show_in (Some upper) window =
    if window == 0 then (λ s. done tt (record s { text = take upper.from s.text }))
    else show_text upper

-- a read in the upper window shows its text, and one in the lower window drops it
unfoldable pub show_upper : Here → State → Out (Unit {0})
show_upper here = show_in here.upper here.standard_state.window
