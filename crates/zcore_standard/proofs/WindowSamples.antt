-- The upper window, computed.
use Rattle.std.proofs.Common.{◌≡◌, ℕ, List, [], ◌∷◌, ◌++◌, length, replicate, Option, Some, None, refl}
use Rattle.std.specs.Prelude.{codes}
use Rattle.zcore.specs.declared.place.Limit.TheVariants as limits
use Rattle.zcore.specs.declared.place.Place.TheVariants as places
use Rattle.zcore.specs.State.{State, done, halt}
use Rattle.zcore.specs.Turn.{first_state}
use Rattle.zcore_standard.specs.declared.streams.Stream.{Stream}
use Rattle.zcore_standard.specs.declared.windows.Upper.{Upper}
use Rattle.zcore_standard.specs.Loaded.{seeded}
use Rattle.zcore_standard.specs.Machine.{begins, shown}
use Rattle.zcore_standard.specs.Place.{Here}
use Rattle.zcore_standard.specs.Streams.{close_all, begin_read}
use Rattle.zcore_standard.specs.Windows.{without_spaces, last_line, width, with_new_line, row_of, with_cursor}
use Rattle.zcore_standard.specs.Windows.{drawn, redraw, put_cursor, set_cursor, settled, set_window, erase_upper}
use Rattle.zcore_standard.specs.Windows.{erase_window, split_window, with_upper, show_text}
use Rattle.zcore_standard.specs.Windows.{show_upper}

abbrev here : ℕ → List Stream → Option Upper → Here
here window streams upper = record {
  next = record { program_counter = 100; fuel = 5 };
  standard_state = record (seeded 12345) { window = window };
  kept = [];
  streams = streams;
  upper = upper;
}

abbrev state : List ℕ → State
state text = record (first_state []) { text = text }

abbrev upper : ℕ → ℕ → ℕ → Option Upper
upper from mark row = Some (record { from = from; mark = mark; row = row })

abbrev stream : Stream
stream = record { table = 64; from = 2 }

-- The beginning of a turn, and set_window

begins_lower : begins (seeded 12345) [] (record { program_counter = 100; fuel = 5 }) ≡ here 0 [] None
begins_lower = refl

begins_upper : begins (record (seeded 12345) { window = 1 }) [] (record { program_counter = 100; fuel = 5 })
    ≡ here 1 [] (upper 0 0 1)
begins_upper = refl

selects : set_window (here 0 [] None) 1 (state (codes "ab")) ≡ done (here 1 [] (upper 2 2 1)) (state (codes "ab"))
unfolding set_window settled
selects = refl

-- any number but 0 is the upper window; where it is selected, its cursor goes to row 1 and column 1
selects_again : set_window (here 1 [] (upper 2 2 1)) 7 (state (codes "abHi"))
    ≡ done (here 1 [] (upper 2 5 1)) (state (codes "abHi" ++ 10 ∷ []))
unfolding set_window put_cursor redraw drawn row_of with_cursor without_spaces width with_new_line last_line
selects_again = refl

drops : set_window (here 1 [] (upper 2 2 1)) 0 (state (codes "abHi")) ≡ done (here 0 [] None) (state (codes "ab"))
unfolding set_window settled
drops = refl

-- while a stream is open, the window alone
selects_in_stream : set_window (here 0 (stream ∷ []) None) 1 (state (codes "abHi"))
    ≡ done (here 1 (stream ∷ []) None) (state (codes "abHi"))
unfolding set_window settled
selects_in_stream = refl

drops_in_stream : set_window (here 1 (stream ∷ []) (upper 1 1 1)) 0 (state (codes "abHi"))
    ≡ done (here 0 (stream ∷ []) (upper 1 1 1)) (state (codes "abHi"))
unfolding set_window settled
drops_in_stream = refl

-- and when the last one is closed, the upper window begins, goes on or is dropped
settles_begun : settled (here 1 [] None) (state (codes "ab")) ≡ done (here 1 [] (upper 2 2 1)) (state (codes "ab"))
unfolding settled
settles_begun = refl

settles_on : settled (here 1 [] (upper 1 1 4)) (state (codes "ab")) ≡ done (here 1 [] (upper 1 1 4)) (state (codes "ab"))
unfolding settled
settles_on = refl

settles_dropped : settled (here 0 [] (upper 1 1 4)) (state (codes "ab")) ≡ done (here 0 [] None) (state (codes "a"))
unfolding settled
settles_dropped = refl

-- another is still open
settles_not : settled (here 0 (stream ∷ []) (upper 1 1 4)) (state (codes "ab"))
    ≡ done (here 0 (stream ∷ []) (upper 1 1 4)) (state (codes "ab"))
unfolding settled
settles_not = refl

-- The text of the window

cut_spaces : without_spaces (codes " a b  ") ≡ codes " a b"
unfolding without_spaces
cut_spaces = refl

no_spaces : without_spaces (codes "   ") ≡ []
unfolding without_spaces
no_spaces = refl

-- an a with two dots is one character of two bytes
wide : width (codes "ab" ++ 10 ∷ 0xC3 ∷ 0xA4 ∷ codes "x") ≡ 2
unfolding width last_line
wide = refl

-- a newline adds a row
row : row_of (record { from = 0; mark = 2; row = 5 }) (10 ∷ 10 ∷ 65 ∷ 10 ∷ []) ≡ 6
unfolding row_of
row = refl

-- set_cursor

abbrev drawing : List ℕ → ℕ → ℕ → List ℕ
drawing text row column = drawn (record { from = 1; mark = 1; row = 1 }) row column (codes ">" ++ text)

-- to the right in the same row
to_right : drawing (codes "ab") 1 6 ≡ codes ">ab   "
unfolding drawn row_of with_cursor without_spaces width with_new_line last_line
to_right = refl

-- over a bar of spaces
over_bar : drawing (replicate 8 32) 1 3 ≡ codes ">  "
unfolding drawn row_of with_cursor without_spaces width with_new_line last_line
over_bar = refl

-- over what is there: a new line, without the spaces at the end of this one
over_text : drawing (codes "ab  ") 1 2 ≡ codes ">ab" ++ 10 ∷ 32 ∷ []
unfolding drawn row_of with_cursor without_spaces width with_new_line last_line
over_text = refl

-- right after what is there
after_text : drawing (codes "ab  ") 1 3 ≡ codes ">ab"
unfolding drawn row_of with_cursor without_spaces width with_new_line last_line
after_text = refl

-- another row is a new line; rows between are not drawn
another_row : drawing (codes "ab") 4 3 ≡ codes ">ab" ++ 10 ∷ 32 ∷ 32 ∷ []
unfolding drawn row_of with_cursor without_spaces width with_new_line last_line
another_row = refl

-- the last line is empty already, or has only spaces
empty_line : drawing (codes "ab" ++ 10 ∷ 32 ∷ []) 4 1 ≡ codes ">ab" ++ 10 ∷ []
unfolding drawn row_of with_cursor without_spaces width with_new_line last_line
empty_line = refl

-- row 2 is where the newline led
next_row : drawing (codes "ab" ++ 10 ∷ codes "c") 2 3 ≡ codes ">ab" ++ 10 ∷ codes "c "
unfolding drawn row_of with_cursor without_spaces width with_new_line last_line
next_row = refl

sets : set_cursor (here 1 [] (upper 1 1 1)) 3 2 (state (codes ">a")) ≡ done (here 1 [] (upper 1 4 3)) (state (codes ">a" ++ 10 ∷ 32 ∷ []))
unfolding set_cursor put_cursor redraw drawn row_of with_cursor without_spaces width with_new_line last_line
sets = refl

-- nothing: row 0, column 256, the lower window, an open stream
row_0 : set_cursor (here 1 [] (upper 1 1 1)) 0 1 (state (codes ">a")) ≡ done (here 1 [] (upper 1 1 1)) (state (codes ">a"))
unfolding set_cursor
row_0 = refl

column_256 : set_cursor (here 1 [] (upper 1 1 1)) 1 256 (state (codes ">a"))
    ≡ done (here 1 [] (upper 1 1 1)) (state (codes ">a"))
unfolding set_cursor
column_256 = refl

in_lower : set_cursor (here 0 [] None) 2 2 (state (codes ">a")) ≡ done (here 0 [] None) (state (codes ">a"))
unfolding set_cursor
in_lower = refl

in_stream : set_cursor (here 1 (stream ∷ []) (upper 1 1 1)) 2 2 (state (codes ">a"))
    ≡ done (here 1 (stream ∷ []) (upper 1 1 1)) (state (codes ">a"))
unfolding set_cursor
in_stream = refl

-- erase_window and split_window

erases : erase_window (here 1 [] (upper 1 4 3)) 1 (state (codes ">abc")) ≡ done (here 1 [] (upper 1 1 1)) (state (codes ">"))
unfolding erase_window erase_upper
erases = refl

erases_both : erase_window (here 1 [] (upper 1 4 3)) 0xFFFE (state (codes ">abc"))
    ≡ done (here 1 [] (upper 1 1 1)) (state (codes ">"))
unfolding erase_window erase_upper
erases_both = refl

unsplits : erase_window (here 1 [] (upper 1 4 3)) 0xFFFF (state (codes ">abc")) ≡ done (here 0 [] None) (state (codes ">"))
unfolding erase_window set_window settled
unsplits = refl

erases_lower : erase_window (here 1 [] (upper 1 4 3)) 0 (state (codes ">abc"))
    ≡ done (here 1 [] (upper 1 4 3)) (state (codes ">abc"))
unfolding erase_window
erases_lower = refl

erases_in_stream : erase_window (here 1 (stream ∷ []) (upper 1 1 1)) 1 (state (codes ">abc"))
    ≡ done (here 1 (stream ∷ []) (upper 1 1 1)) (state (codes ">abc"))
unfolding erase_window erase_upper
erases_in_stream = refl

split_0 : split_window (here 1 [] (upper 1 4 3)) 0 (state (codes ">abc")) ≡ done (here 1 [] (upper 1 1 1)) (state (codes ">"))
unfolding split_window erase_upper
split_0 = refl

split_3 : split_window (here 1 [] (upper 1 4 3)) 3 (state (codes ">abc"))
    ≡ done (here 1 [] (upper 1 4 3)) (state (codes ">abc"))
unfolding split_window
split_3 = refl

-- A read

abbrev showing : ℕ → List ℕ → List ℕ
showing from text = with_upper (record { from = from; mark = from; row = 1 }) text

-- in lines of its own, without the spaces at its end
shows : showing 1 (codes ">ab  ") ≡ codes ">" ++ 10 ∷ codes "ab" ++ 10 ∷ []
unfolding with_upper without_spaces with_new_line last_line
shows = refl

shows_alone : showing 0 (codes "ab" ++ 10 ∷ []) ≡ codes "ab" ++ 10 ∷ []
unfolding with_upper without_spaces with_new_line last_line
shows_alone = refl

shows_after_line : showing 2 (codes ">" ++ 10 ∷ codes "ab") ≡ codes ">" ++ 10 ∷ codes "ab" ++ 10 ∷ []
unfolding with_upper without_spaces with_new_line last_line
shows_after_line = refl

shows_nothing : showing 1 (codes ">   ") ≡ codes ">"
unfolding with_upper without_spaces
shows_nothing = refl

-- the lower window is selected when its last stream is closed
reads : begin_read [] (here 1 [] (upper 1 1 1)) (state (codes ">ab")) ≡ done tt (state (codes ">" ++ 10 ∷ codes "ab" ++ 10 ∷ []))
unfolding begin_read close_all show_upper show_text redraw with_upper without_spaces with_new_line last_line
reads = refl

reads_lower : begin_read [] (here 0 [] (upper 1 1 1)) (state (codes ">ab")) ≡ done tt (state (codes ">"))
unfolding begin_read close_all show_upper
reads_lower = refl

-- The limit of text

too_long : (text : List ℕ) → length text ≡ 65537 → redraw text (state []) ≡ halt (places.Limit limits.Text) (state [])
unfolding redraw
too_long text e = rw e refl

long_enough : (text : List ℕ) → length text ≡ 65536 → redraw text (state []) ≡ done tt (state text)
unfolding redraw
long_enough text e = rw e refl

-- The end of a turn: all is left where a read waits, and else neither the window's text nor that of a stream

waiting_left : shown (here 1 [] (upper 1 1 1)) places.Waiting (codes ">ab") ≡ codes ">ab"
waiting_left = refl

quit_left : shown (here 1 (stream ∷ []) (upper 1 1 1)) places.Quit (codes ">ab") ≡ codes ">"
quit_left = refl
