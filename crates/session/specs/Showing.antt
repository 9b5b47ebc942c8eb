-- What a session shows of its turns besides their texts: what they draw in the upper window, and, where text styles are
-- kept, their texts with marks. In the profile nothing is drawn, and all is plain.
use Rattle.std.specs.Prelude.{ℕ, nat_lt, Bool, true, false, if◌then◌else◌, List, [], ◌∷◌, Option, None, Some}
use Rattle.std.specs.List.{count_by, zip}
use Rattle.zcore.specs.Turn.{StateOfPlay, Whole}
use Rattle.zcore_standard.specs.Windows.{is_new_line}
use Rattle.zcore_versions.specs.Versions.{Story}
use Rattle.machine_picture.specs.Picture.{drawing_on, opening_drawing}
use Rattle.machine_standard.specs.Styled.{opening_styles, styles_on}
use Rattle.machine_picture.specs.Marks.{marked}
use Rattle.machine_picture.specs.Styles.{Styles, begun, without_part}
use Rattle.session.specs.declared.mode.Keep.{Keep}
use Rattle.session.specs.Modes.{opening_with, turn_with}
use Rattle.session.specs.Shown.{Showing, Shown}

abbrev pub showing_of : Keep → Showing
showing_of keep = record { picture = keep.picture; styles = keep.styles; rows = keep.rows }

abbrev pub nothing_shown : Shown
nothing_shown = record { drawing = []; style = 0; marked = [] }

-- whether a screen that draws at most so many rows of the upper window shows the whole drawing
abbrev pub is_drawn_whole : Option ℕ → List ℕ → Bool
is_drawn_whole None drawing = false
is_drawn_whole (Some rows) drawing = nat_lt (count_by is_new_line drawing) rows

-- A text with marks. What a read shows in it of the upper window is left out where a screen shows that window whole.
abbrev pub marked_beside : Option ℕ → List ℕ → List ℕ → Styles → List ℕ
marked_beside rows drawing text p =
    if is_drawn_whole rows drawing then marked (without_part p.part text) (without_part p.part p.each)
    else marked text p.each

-- what is shown of a drawing and a text with its styles, where these are kept and where they are not
abbrev pub shown_of : Option ℕ → Bool → List ℕ → List ℕ → Styles → Shown
shown_of rows false drawing text p = record { drawing = drawing; style = 0; marked = [] }
shown_of rows true drawing text p =
    record { drawing = drawing; style = p.style; marked = marked_beside rows drawing text p }

-- what the opening draws in the upper window, and what the turn of a line does, in the picture with which it begins
abbrev pub opening_drawing_with : Option Story → List ℕ → ℕ → List ℕ
opening_drawing_with None memory fuel = []
opening_drawing_with (Some story) memory fuel = opening_drawing story memory fuel

abbrev pub turn_drawing : Option Story → List ℕ → ℕ → List ℕ → StateOfPlay → List ℕ
turn_drawing None line fuel drawing play = drawing
turn_drawing (Some story) line fuel drawing play = drawing_on story line fuel drawing play

-- which begins with what the turn before has drawn, where pictures are kept as on a screen, and else is blank
abbrev pub begun_with : Bool → List ℕ → List ℕ
begun_with keeps drawing = if keeps then drawing else []

-- the styles of the opening, and of the turn of a line, which begins in one
abbrev pub opening_styles_with : Option Story → List ℕ → ℕ → Styles
opening_styles_with None memory fuel = begun 0 0
opening_styles_with (Some story) memory fuel = opening_styles story memory fuel

abbrev pub turn_styles : Option Story → List ℕ → ℕ → ℕ → StateOfPlay → Styles
turn_styles None line fuel style play = begun style 0
turn_styles (Some story) line fuel style play = styles_on story line fuel style play

-- the text of a whole state, if there is one
abbrev pub text_in : Option Whole → List ℕ
text_in None = []
text_in (Some whole) = whole.text

-- what is shown of the opening, and of the turn of a line, by what was shown before it
abbrev pub opening_shown : Option Story → Showing → List ℕ → ℕ → Shown
opening_shown loaded showing memory fuel = shown_of showing.rows showing.styles (opening_drawing_with loaded memory fuel)
    (text_in (opening_with loaded memory fuel)) (opening_styles_with loaded memory fuel)

abbrev pub turn_shown : Option Story → Showing → List ℕ → ℕ → Shown → StateOfPlay → Shown
turn_shown loaded showing line fuel before play = shown_of showing.rows showing.styles
    (turn_drawing loaded line fuel (begun_with showing.picture before.drawing) play)
    (text_in (turn_with loaded line fuel play)) (turn_styles loaded line fuel before.style play)

-- what was shown first, and then of each turn, which leads on from a whole state by a line
abbrev pub shown_from : Option Story → Showing → ℕ → Shown → List (Whole × List ℕ) → List Shown
shown_from loaded showing fuel shown [] = shown ∷ []
shown_from loaded showing fuel shown (turn ∷ turns) = shown ∷ shown_from loaded showing fuel
    (turn_shown loaded showing turn.1 fuel shown turn.0.state) turns

-- what was shown on the way to each of these whole states, which lines have led to
abbrev pub shown_with : Option Story → Showing → List ℕ → ℕ → List Whole → List (List ℕ) → List Shown
shown_with loaded showing memory fuel wholes lines =
    shown_from loaded showing fuel (opening_shown loaded showing memory fuel) (zip wholes lines)
