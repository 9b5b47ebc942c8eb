-- Pictures of the upper window, computed.
use Rattle.std.proofs.Common.{◌≡◌, [], ◌∷◌, ◌++◌, true, refl}
use Rattle.std.specs.Prelude.{codes}
use Rattle.zcore_standard.specs.declared.operations.StandardOperation.TheVariants.{EraseLine, EraseWindow, SetCursor}
use Rattle.zcore_standard.specs.declared.operations.StandardOperation.TheVariants.{PrintTable, SplitWindow}
use Rattle.zcore_standard.specs.Streams.{characters_in}
use Rattle.zcore_standard.specs.Windows.{without_spaces}
use Rattle.machine_picture.specs.Picture.{Picture, at_cursor, blank_picture, drawn, drawn_beside, picture_from, picture_text}
use Rattle.machine_picture.specs.Picture.{redrawn, redrawn_to, rows_text, with_text, without_lines}

-- two rows, of a text of which 3 bytes were looked at
two_rows : picture_text (with_text true (codes "In KEEP OUT\nof it") (blank_picture 3)) ≡ codes "KEEP OUT\nof it"
unfolding picture_text rows_text without_lines with_text drawn drawn_beside without_spaces characters_in
two_rows = refl

-- in another place, with blank cells before it; and a character of two bytes
placed : picture_text (with_text true (0xC3 ∷ 0xA9 ∷ 98 ∷ 32 ∷ []) (at_cursor 2 3 (blank_picture 0)))
    ≡ 10 ∷ 32 ∷ 32 ∷ 0xC3 ∷ 0xA9 ∷ 98 ∷ []
unfolding picture_text rows_text without_lines with_text drawn drawn_beside without_spaces characters_in
placed = refl

overwritten : picture_text (with_text true (codes "abcX") (at_cursor 1 2 (with_text true (codes "abc") (blank_picture 0))))
    ≡ codes "aXc"
unfolding picture_text rows_text without_lines with_text drawn drawn_beside without_spaces characters_in
overwritten = refl

-- a row from the cursor on, and all of it
line_erased : redrawn 4 EraseLine 1 (1 ∷ []) (at_cursor 1 2 (with_text true (codes "abc") (blank_picture 0)))
    ≡ record { cells = 97 ∷ 32 ∷ 32 ∷ []; row = 1; column = 2; seen = 3; until = 0; margin = 0 }
unfolding with_text drawn drawn_beside characters_in
line_erased = refl

all_erased : redrawn 4 EraseWindow 0 (65535 ∷ []) (with_text true (codes "abc") (blank_picture 0)) ≡ blank_picture 3
unfolding with_text drawn drawn_beside characters_in
all_erased = refl

-- rows that are left; in version 3 none is, whatever their number
split_smaller : picture_text (redrawn 4 SplitWindow 0 (1 ∷ []) (with_text true (codes "a\nb") (blank_picture 0))) ≡ codes "a"
unfolding picture_text rows_text without_lines with_text drawn drawn_beside without_spaces characters_in
split_smaller = refl

split_3 : redrawn 3 SplitWindow 0 (9 ∷ []) (with_text true (codes "a") (blank_picture 0))
    ≡ record { cells = []; row = 1; column = 2; seen = 1; until = 0; margin = 0 }
unfolding with_text drawn drawn_beside characters_in
split_3 = refl

-- the rows of a table are put beside what stands before its column; within them, spaces wipe out what was there
beside : picture_text (with_text true (codes "####\n####xy\n  z ")
    (redrawn_to 5 PrintTable 1 [] 16 (at_cursor 1 3 (with_text true (codes "####\n####") (blank_picture 0)))))
    ≡ codes "##xy\n##z"
unfolding picture_text rows_text without_lines with_text drawn drawn_beside without_spaces characters_in
beside = refl

-- the cursor is set in the upper window alone
lower_window : redrawn 4 SetCursor 0 (5 ∷ 5 ∷ []) (blank_picture 0) ≡ blank_picture 0
lower_window = refl

-- a picture that begins with an empty text is blank
nothing_begun : picture_from [] 7 ≡ blank_picture 7
unfolding drawn characters_in
nothing_begun = refl

-- so what a picture shows is shown again, with its empty rows and its accented letters
shown_again : picture_text (picture_from (codes "in\n\n of" ++ 0xC3 ∷ 0xA9 ∷ []) 3) ≡ codes "in\n\n of" ++ 0xC3 ∷ 0xA9 ∷ []
unfolding picture_text rows_text without_lines drawn without_spaces characters_in
shown_again = refl

-- a menu whose marker goes from the first line to the second; nothing else is printed
abbrev first_line : Picture
first_line = picture_from (codes "> A\n  B\n  C") 0

abbrev second_line : Picture
second_line = at_cursor 2 1 (with_text true (codes " ") first_line)

marker_moved : picture_text (with_text true (codes " >") second_line) ≡ codes "  A\n> B\n  C"
unfolding picture_text rows_text without_lines with_text drawn drawn_beside without_spaces characters_in
marker_moved = refl
