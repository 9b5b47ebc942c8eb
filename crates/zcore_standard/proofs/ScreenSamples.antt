-- get_cursor and set_font, computed.
use Rattle.std.proofs.Common.{◌≡◌, ℕ, List, [], ◌∷◌, ◌++◌, codes, replicate, Some, None, refl}
use Rattle.zcore.specs.declared.next.Next.{Next}
use Rattle.zcore.specs.declared.place.Fault.TheVariants as faults
use Rattle.zcore.specs.declared.place.Place.TheVariants as places
use Rattle.zcore.specs.Effects.{give_result}
use Rattle.zcore.specs.Parts.{test_result, store_result, write_variable, push, write_word}
use Rattle.zcore.specs.State.{State, done, halt}
use Rattle.zcore.specs.Turn.{first_environment, first_state}
use Rattle.zcore_standard.specs.declared.operations.StandardOperation.TheVariants.{ReadChar, SetTextStyle}
use Rattle.zcore_standard.specs.Performing.{perform_keeping}
use Rattle.zcore_standard.specs.Loaded.{Loaded, seeded}
use Rattle.zcore_standard.specs.Place.{Here, plain}
use Rattle.zcore_standard.specs.Screen.{get_cursor, cursor_row, cursor_column, indent_of, set_font}
use Rattle.zcore_standard.specs.Windows.{last_line, row_of, width}

abbrev here : Next
here = record { program_counter = 100; fuel = 5 }

-- static base 70; from 64 on four bytes, and two more
abbrev story : List ℕ → List ℕ
story four = replicate 15 0 ++ (70 ∷ []) ++ replicate 48 0 ++ four ++ replicate 6 9

-- the row, then the column
cursor : get_cursor here 104 64 2 300 (first_state (story (9 ∷ 9 ∷ 9 ∷ 9 ∷ [])))
    ≡ done (record here { program_counter = 104 }) (first_state (story (0 ∷ 2 ∷ 1 ∷ 44 ∷ [])))
unfolding get_cursor write_word
cursor = refl

-- M4: the table reaches static memory, or lies in the header; nothing is written
cursor_static : get_cursor here 104 67 1 1 (first_state (story (9 ∷ 9 ∷ 9 ∷ 9 ∷ [])))
    ≡ halt (places.Fault faults.Write) (first_state (story (9 ∷ 9 ∷ 9 ∷ 9 ∷ [])))
unfolding get_cursor
cursor_static = refl

cursor_header : get_cursor here 104 63 1 1 (first_state (story (9 ∷ 9 ∷ 9 ∷ 9 ∷ [])))
    ≡ halt (places.Fault faults.Write) (first_state (story (9 ∷ 9 ∷ 9 ∷ 9 ∷ [])))
unfolding get_cursor
cursor_header = refl

-- Where the cursor is

abbrev lower : Here
lower = plain (seeded 0) [] here

-- the upper window begins after 2 bytes, and its cursor was set to row 5 after 4
abbrev upper : Here
upper = record lower { upper = Some (record { from = 2; mark = 4; row = 5 }) }

-- a stream to 64, after so many bytes
abbrev with_stream : Here → ℕ → Here
with_stream there from = record there { streams = record { table = 64; from = from } ∷ there.streams }

at_first : cursor_row lower [] ≡ 1
unfolding cursor_row
at_first = refl

first_column : cursor_column lower [] ≡ 1
unfolding cursor_column width last_line
first_column = refl

-- in the lower window, new lines of the turn are counted
lower_row : cursor_row lower (codes "a" ++ 10 ∷ 10 ∷ codes "bc") ≡ 3
unfolding cursor_row
lower_row = refl

lower_column : cursor_column lower (codes "a" ++ 10 ∷ 10 ∷ codes "bc") ≡ 3
unfolding cursor_column width last_line
lower_column = refl

-- in the upper window, those after the row was set, and no text of the lower one
upper_row : cursor_row upper (codes ">a" ++ 10 ∷ codes "b" ++ 10 ∷ codes "cde") ≡ 6
unfolding cursor_row row_of
upper_row = refl

upper_column : cursor_column upper (codes ">abc") ≡ 3
unfolding cursor_column width last_line
upper_column = refl

-- what goes to streams does not move it
streamed_row : cursor_row (with_stream (with_stream lower 3) 5) (codes "ab" ++ 10 ∷ 10 ∷ 10 ∷ 10 ∷ []) ≡ 2
unfolding cursor_row
streamed_row = refl

streamed_column : cursor_column (with_stream (with_stream upper 3) 4) (codes ">abcdef") ≡ 2
unfolding cursor_column width last_line
streamed_column = refl

-- how far a table is indented: a table that goes to a stream is not
lower_indent : indent_of lower (codes "a" ++ 10 ∷ codes "bc") ≡ 2
unfolding indent_of width last_line
lower_indent = refl

upper_indent : indent_of upper (codes ">abcd") ≡ 3
unfolding indent_of width last_line
upper_indent = refl

streamed_indent : indent_of (with_stream lower 1) (codes "abcd") ≡ 0
unfolding indent_of
streamed_indent = refl

-- Fonts

abbrev with_result : ℕ → State
with_result word = record (first_state []) { frames = record first_environment { stack = word ∷ [] } ∷ [] }

font_0 : set_font here 104 (Some 0) 0 (first_state [])
    ≡ done (record here { program_counter = 104 }) (with_result 1)
unfolding set_font give_result test_result store_result write_variable push
font_0 = refl

font_4 : set_font here 104 (Some 0) 4 (first_state [])
    ≡ done (record here { program_counter = 104 }) (with_result 0)
unfolding set_font give_result test_result store_result write_variable push
font_4 = refl

-- M1: keys are not played yet
key : (loaded : Loaded) → perform_keeping loaded ReadChar here 104 (Some 0) None (1 ∷ []) (first_state [])
    ≡ halt (places.Fault faults.Opcode) (first_state [])
unfolding perform_keeping
key loaded = refl

style : (loaded : Loaded) → perform_keeping loaded SetTextStyle here 104 None None (3 ∷ []) (first_state [])
    ≡ done (record here { program_counter = 104 }) (first_state [])
unfolding perform_keeping
style loaded = refl
