-- Styles and marks, computed.
use Rattle.std.proofs.Common.{◌≡◌, ℕ, List, [], ◌∷◌, ◌++◌, replicate, false, None, Some, refl}
use Rattle.std.specs.Prelude.{codes}
use Rattle.zcore.specs.declared.place.Fault.TheVariants as faults
use Rattle.zcore.specs.declared.place.Place.TheVariants as places
use Rattle.zcore.specs.State.{State}
use Rattle.zcore.specs.Turn.{at_rest, first_state}
use Rattle.zcore_standard.specs.declared.operations.StandardOperation.TheVariants.{EraseWindow, ReadChar}
use Rattle.zcore_standard.specs.declared.operations.StandardOperation.TheVariants.{Restart, Save, SetCursor}
use Rattle.zcore_standard.specs.declared.windows.Upper.{Upper}
use Rattle.zcore_standard.specs.Place.{Here, plain}
use Rattle.zcore_standard.specs.Windows.{last_line, row_of, with_new_line, without_spaces}
use Rattle.machine_picture.specs.Marks.{mark, marked, marked_after, without_marks}
use Rattle.machine_picture.specs.Styles.{Styles, after, at_end, chosen, left_by, no_part, part_of, part_shown, printed}
use Rattle.machine_picture.specs.Styles.{restyled, without_part}

-- the second byte of Flags 2 is this
abbrev memory : ℕ → List ℕ
memory low = replicate 17 0 ++ low ∷ replicate 46 0

abbrev state : ℕ → List ℕ → State
state low text = record (first_state (memory low)) { text = text }

abbrev lower : Here
lower = plain at_rest [] (record { program_counter = 64; fuel = 9 })

-- the upper window, after two bytes of text; its cursor was set after so many bytes, in row 1
abbrev window : ℕ → Upper
window mark = record { from = 2; mark = mark; row = 1 }

abbrev upper : ℕ → Here
upper mark = record (plain (record at_rest { window = 1 }) [] (record { program_counter = 64; fuel = 9 }))
    { upper = Some (window mark) }

abbrev styles : ℕ → List ℕ → Styles
styles style each = record { style = style; each = each; part = no_part }

-- Styles

added_to : chosen 4 2 ≡ 6
added_to = refl

ended : chosen 0 7 ≡ 0
ended = refl

-- bits from 4 on are not looked at, but the value is not 0
high_bits : chosen 16 2 ≡ 2
high_bits = refl

restarted : restyled (Some Restart) 0 7 ≡ 0
restarted = refl

fixed_asked : printed 5 (memory 2) 1 ≡ 9
fixed_asked = refl

fixed_not_asked : printed 5 (memory 1) 1 ≡ 1
fixed_not_asked = refl

-- versions 1 and 2 have no such bit
fixed_unknown : printed 2 (memory 2) 1 ≡ 1
fixed_unknown = refl

-- Steps

printed_bold : after 5 None 0 lower (state 0 (codes "a")) lower (codes "abc") (styles 2 (0 ∷ []))
    ≡ styles 2 (0 ∷ 2 ∷ 2 ∷ [])
printed_bold = refl

-- a bar of spaces in reverse, in which the cursor goes back to column 3
in_line : left_by (Some (window 2)) (codes "x\n     ") (Some (window 4)) (codes "x\n  ")
    (0 ∷ 0 ∷ 1 ∷ 1 ∷ 1 ∷ 1 ∷ 1 ∷ []) ≡ 0 ∷ 0 ∷ 1 ∷ 1 ∷ 1 ∷ 1 ∷ 1 ∷ []
unfolding row_of without_spaces
in_line = refl

-- and one in which it goes on to row 2, column 2: the spaces are cut, and another is inserted
to_another_line : after 5 (Some SetCursor) 2 (upper 2) (state 0 (codes "x\na  "))
    (record (upper 2) { upper = Some (record { from = 2; mark = 5; row = 2 }) }) (codes "x\na\n ")
    (styles 1 (0 ∷ 0 ∷ 1 ∷ 1 ∷ 1 ∷ [])) ≡ styles 1 (0 ∷ 0 ∷ 1 ∷ 0 ∷ 0 ∷ [])
unfolding row_of without_spaces
to_another_line = refl

erased : after 5 (Some EraseWindow) 1 (upper 2) (state 0 (codes "x\nab")) (upper 2) (codes "x\n")
    (styles 1 (0 ∷ 0 ∷ 1 ∷ 1 ∷ [])) ≡ styles 1 (0 ∷ 0 ∷ [])
unfolding row_of without_spaces
erased = refl

-- a read shows the window in lines of its own, without the spaces at its end
shown : at_end 5 (Some ReadChar) (record (upper 2) { upper = Some (record { from = 1; mark = 1; row = 1 }) })
    (state 0 (codes "xab  ")) places.Waiting (codes "x\nab\n") (styles 1 (2 ∷ 1 ∷ 1 ∷ 1 ∷ 1 ∷ []))
    ≡ record (styles 1 (2 ∷ 0 ∷ 1 ∷ 1 ∷ 0 ∷ [])) { part = record { from = 2; to = 5 } }
unfolding without_spaces with_new_line last_line
shown = refl

-- beside that part are lines of their own, and the prompt for the name of a saved game, which comes after it
beside : without_part (record { from = 2; to = 5 }) (codes "x\nab\nName: ") ≡ codes "x\nName: "
beside = refl

-- a window in which nothing is to be seen has no part
nothing_shown : without_part (part_of (window 2) (codes "x\n  ")) (codes "x\nName: ") ≡ codes "x\nName: "
unfolding without_spaces with_new_line last_line
nothing_shown = refl

-- nor has one that is not selected
not_selected : part_shown (Some (window 2)) 0 (codes "x\nab") ≡ no_part
not_selected = refl

-- the prompt for the name of a saved game is plain
prompted : at_end 5 (Some Save) lower (state 0 (codes "x")) places.Waiting (codes "x\nName: ") (styles 2 (2 ∷ []))
    ≡ styles 2 (2 ∷ replicate 7 0)
prompted = refl

-- what was printed in the upper window is not heard where a fault ends the turn
not_heard : at_end 5 None (upper 2) (state 0 (codes "x\na")) (places.Fault faults.Read) (codes "x\nab")
    (styles 1 (0 ∷ 2 ∷ 1 ∷ [])) ≡ styles 1 (0 ∷ 2 ∷ [])
not_heard = refl

-- Marks

all_parts : mark 15 ≡ 27 ∷ codes "[0;7;1;3;50m"
all_parts = refl

between : marked (codes "abc") (0 ∷ 2 ∷ 0 ∷ []) ≡ 97 ∷ 27 ∷ codes "[0;1mb" ++ 27 ∷ codes "[0mc"
unfolding marked_after
between = refl

at_the_end : marked (codes "a") (4 ∷ []) ≡ 27 ∷ codes "[0;3ma" ++ 27 ∷ codes "[0m"
unfolding marked_after
at_the_end = refl

-- bytes that have no style are plain
notice : marked (codes "a!") (1 ∷ []) ≡ 27 ∷ codes "[0;7ma" ++ 27 ∷ codes "[0m!"
unfolding marked_after
notice = refl

left_out : without_marks false (marked (codes "abm") (9 ∷ 9 ∷ 1 ∷ [])) ≡ codes "abm"
unfolding marked_after without_marks
left_out = refl
