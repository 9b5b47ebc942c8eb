-- The status line in several widths, computed.
use Rattle.std.proofs.Common.{◌≡◌, ℕ, List, [], ◌∷◌, ◌++◌, Some, None, refl, true}
use Rattle.std.specs.Prelude.{codes, replicate}
use Rattle.screen.specs.Sizes.{number_after, told_size}
use Rattle.screen.specs.Status.{right_after, status_line, window_for}
use Rattle.screen.specs.Upper.{fitting}

blanks : ℕ → List ℕ
blanks count = replicate count 32

score : List ℕ
score = codes "Score: 5" ++ (blanks 8 ++ codes "Moves: 17")

-- a line as a session tells it
hall : List ℕ
hall = codes " Hall" ++ (blanks 45 ++ score)

in_60_columns : status_line 60 hall ≡ codes " Hall" ++ (blanks 29 ++ score)
unfolding right_after fitting blanks score hall
in_60_columns = refl

in_132_columns : status_line 132 hall ≡ codes " Hall" ++ (blanks 101 ++ score)
unfolding right_after fitting blanks score hall
in_132_columns = refl

in_20_columns : status_line 20 hall ≡ codes " Hall" ++ (blanks 10 ++ codes "5/17")
unfolding right_after fitting blanks score hall
in_20_columns = refl

-- the name of a place is cut, and not what follows
in_40_columns : status_line 40 (blanks 1 ++ (replicate 60 97 ++ codes " Score: 5 Moves: 17"))
    ≡ blanks 1 ++ (replicate 19 97 ++ codes " Score: 5 Moves: 17")
unfolding right_after fitting blanks
in_40_columns = refl

-- a place whose name has such words
the_last_score : status_line 60 (codes " Score: board" ++ (blanks 37 ++ score))
    ≡ codes " Score: board" ++ (blanks 21 ++ score)
unfolding right_after fitting blanks score
the_last_score = refl

a_time : status_line 60 (codes " Hall" ++ (blanks 45 ++ codes "Time: 14:05"))
    ≡ codes " Hall" ++ (blanks 43 ++ codes "Time: 14:05")
unfolding right_after fitting blanks
a_time = refl

rows_below_stay : window_for true 20 (hall ++ 10 ∷ codes "Score: 1")
    ≡ codes " Hall" ++ (blanks 10 ++ (codes "5/17" ++ 10 ∷ codes "Score: 1"))
unfolding right_after fitting blanks score hall
rows_below_stay = refl

another_line_stays : status_line 20 (codes "a line of a story, of version 5") ≡ codes "a line of a story, of version 5"
unfolding right_after
another_line_stays = refl

-- what `stty size` writes

told : told_size (codes "40 132" ++ 10 ∷ []) ≡ Some (record { columns = 132; rows = 40 })
unfolding number_after
told = refl

wider_than_allowed : told_size (codes "40 300" ++ 10 ∷ []) ≡ Some (record { columns = 255; rows = 40 })
unfolding number_after
wider_than_allowed = refl

unknown : told_size (codes "0 0" ++ 10 ∷ []) ≡ None
unfolding number_after
unknown = refl

more_lines : told_size (codes "40 132" ++ 10 ∷ 10 ∷ []) ≡ None
unfolding number_after
more_lines = refl
