-- What is written for a reply, computed.
use Rattle.std.proofs.Common.{◌≡◌, ℕ, List, [], ◌∷◌, ◌++◌, Some, None, drop, false, refl}
use Rattle.std.specs.Prelude.{codes, replicate}
use Rattle.screen.specs.declared.size.Size.{Size}
use Rattle.screen.specs.Asked.{asked_after, question}
use Rattle.screen.specs.Drawn.{Reply, lines_of, window_after, written_of}
use Rattle.screen.specs.Replies.{prompt_part, text_part, window_part}
use Rattle.screen.specs.Marked.{styles_from, styles_in, unmarked}
use Rattle.machine_picture.specs.Marks.{marked, marked_after, without_marks}
use Rattle.screen.specs.Sequences.{above_last, plain, plain_from, sequence}
use Rattle.screen.specs.Shown.{shown, shown_after}
use Rattle.screen.specs.Sizes.{number_after, size_in}
use Rattle.screen.specs.Upper.{fitting, height, row_count, rows_from}

abbrev small : Size
small = record { columns = 20; rows = 6 }

-- two lines and a prompt, under a status line

text : List ℕ
text = codes "A hall." ++ (10 ∷ codes "> ")

sample_plain : plain (text_part 0 text [] ++ window_part small 0 (codes "Hall") (prompt_part text [])) ≡ text
unfolding plain_from rows_from fitting marked_after text
sample_plain = refl

-- the same with `hall` in bold, as a session writes it

marked_text : List ℕ
marked_text = codes "A " ++ (27 ∷ codes "[0;1mhall" ++ (27 ∷ codes "[0m." ++ (10 ∷ codes "> ")))

sample_text : unmarked marked_text ≡ text
unfolding without_marks text marked_text
sample_text = refl

sample_styles : styles_in marked_text ≡ 0 ∷ 0 ∷ 2 ∷ 2 ∷ 2 ∷ 2 ∷ 0 ∷ 0 ∷ 0 ∷ 0 ∷ []
unfolding styles_from marked_text
sample_styles = refl

sample_again : marked (unmarked marked_text) (styles_in marked_text) ≡ marked_text
unfolding without_marks styles_from marked_after marked_text
sample_again = refl

all_styles : styles_in (27 ∷ codes "[0;7;1;3;50mx") ≡ 15 ∷ []
unfolding styles_from
all_styles = refl

sample_bold : plain (text_part 0 text (styles_in marked_text)
    ++ window_part small 0 (codes "Hall") (prompt_part text (styles_in marked_text))) ≡ text
unfolding plain_from rows_from fitting styles_from marked_after text marked_text
sample_bold = refl

-- sequences and texts

the_cursor : sequence 24 72 ≡ 27 ∷ codes "[024H"
the_cursor = refl

the_last_row_but_one : above_last 1 ≡ 27 ∷ (codes "[255H" ++ 27 ∷ codes "[001A")
the_last_row_but_one = refl

no_escape_of_a_story : shown (27 ∷ codes "[2J" ++ (0xC2 ∷ 0x9B ∷ 10 ∷ [])) ≡ codes "?[2J" ++ (0xC2 ∷ 0xBF ∷ 10 ∷ [])
unfolding shown_after
no_escape_of_a_story = refl

accents_stay : shown (0xC3 ∷ 0x9B ∷ []) ≡ 0xC3 ∷ 0x9B ∷ []
unfolding shown_after
accents_stay = refl

-- rows

no_row : row_count [] ≡ 0
no_row = refl

an_empty_row : row_count (codes "a" ++ 10 ∷ []) ≡ 2
an_empty_row = refl

a_menu_fits : height 24 (replicate 19 10) ≡ 20
a_menu_fits = refl

a_character_of_two_bytes : fitting 2 (97 ∷ 0xC3 ∷ 0xA9 ∷ 98 ∷ []) ≡ 97 ∷ 0xC3 ∷ 0xA9 ∷ []
unfolding fitting
a_character_of_two_bytes = refl

-- the question after each line, and what its answers draw

asked_before : drop 1 question ++ asked_after false [] ≡ codes "/status" ++ 10 ∷ []
unfolding asked_after
asked_before = refl

asked_after_a_line : asked_after false (codes "n" ++ 10 ∷ []) ≡ codes "n" ++ 10 ∷ (codes "/status" ++ 10 ∷ [])
unfolding asked_after
asked_after_a_line = refl

a_last_line_is_ended : asked_after false (codes "n") ≡ asked_after false (codes "n" ++ 10 ∷ [])
unfolding asked_after
a_last_line_is_ended = refl

a_status_line : window_after [] (codes "Hall" ++ 10 ∷ []) ≡ codes "Hall"
a_status_line = refl

no_status_line : window_after (codes "Hall") (codes "[No status line.]" ++ 10 ∷ []) ≡ []
no_status_line = refl

after_the_end : window_after (codes "Hall") (codes "[The story is over.]" ++ 10 ∷ []) ≡ codes "Hall"
after_the_end = refl

-- sizes

a_size : size_in (codes "132x40") ≡ Some (record { columns = 132; rows = 40 })
unfolding number_after
a_size = refl

too_narrow : size_in (codes "19x40") ≡ None
unfolding number_after
too_narrow = refl

no_rows : size_in (codes "132x") ≡ None
unfolding number_after
no_rows = refl

-- two replies, the latest first

replies : List Reply
replies =
    record { text = codes "c d"; lines = codes "c" ++ (10 ∷ codes "d"); answer = codes "e" }
    ∷ record { text = codes "a"; lines = codes "a"; answer = codes "b" } ∷ []

sample_written : written_of replies ≡ codes "abc de"
unfolding replies
sample_written = refl

sample_lines : lines_of replies ≡ codes "ac" ++ (10 ∷ codes "d")
unfolding replies
sample_lines = refl
