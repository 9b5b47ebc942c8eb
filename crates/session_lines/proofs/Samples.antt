-- The definitions of lines, computed.
use Rattle.std.proofs.Common.{◌≡◌, ℕ, Bool, Option, List, [], ◌∷◌, ◌++◌, Some, None, true, false, refl}
use Rattle.std.specs.Prelude.{codes, replicate}
use Rattle.zcore.specs.declared.place.Place.{Place}
use Rattle.zcore.specs.declared.place.Place.TheVariants.{Waiting, Quit}
use Rattle.session_lines.specs.Input.{lines_of, whole_lines}
use Rattle.session_lines.specs.Standing.{Standing, nothing, is_typable, undo_of, redo_of, taken, reached}
use Rattle.session_lines.specs.Transcript.{Telling, Typed, answer_of, note, transcript_of}

abbrev a : List ℕ
a = codes "a"

abbrev b : List ℕ
b = codes "b"

-- lines of an input

no_input : lines_of [] ≡ []
no_input = refl

last_without_end : lines_of (97 ∷ 10 ∷ 98 ∷ []) ≡ a ∷ b ∷ []
last_without_end = refl

last_with_end : lines_of (97 ∷ 10 ∷ 98 ∷ 10 ∷ []) ≡ a ∷ b ∷ []
last_with_end = refl

empty_lines : lines_of (10 ∷ 10 ∷ 97 ∷ []) ≡ [] ∷ [] ∷ a ∷ []
empty_lines = refl

whole_only : whole_lines (97 ∷ 10 ∷ 98 ∷ []) ≡ a ∷ []
whole_only = refl

-- a carriage return is a byte of its line
carriage_return : lines_of (97 ∷ 13 ∷ 10 ∷ []) ≡ (97 ∷ 13 ∷ []) ∷ []
carriage_return = refl

-- lines for the story

typable_line : is_typable (codes "take lamp~") ≡ true
typable_line = refl

empty_line : is_typable [] ≡ true
empty_line = refl

control_byte : is_typable (31 ∷ []) ≡ false
control_byte = refl

delete_byte : is_typable (127 ∷ []) ≡ false
delete_byte = refl

high_byte : is_typable (97 ∷ 195 ∷ []) ≡ false
high_byte = refl

longest_line : is_typable (replicate 1000 32) ≡ true
longest_line = refl

too_long_line : is_typable (replicate 1001 32) ≡ false
too_long_line = refl

-- lines that stand

two_taken : taken None b (taken None a nothing) ≡ record { done = a ∷ b ∷ []; undone = []; kept = 2 }
two_taken = refl

one_undone : undo_of (taken None b (taken None a nothing)) ≡ record { done = a ∷ []; undone = b ∷ []; kept = 1 }
one_undone = refl

nothing_undone : undo_of nothing ≡ nothing
nothing_undone = refl

both_undone : undo_of (undo_of (taken None b (taken None a nothing)))
    ≡ record { done = []; undone = a ∷ b ∷ []; kept = 0 }
both_undone = refl

done_again : redo_of (undo_of (undo_of (taken None b (taken None a nothing))))
    ≡ record { done = a ∷ []; undone = b ∷ []; kept = 1 }
done_again = refl

undone_no_further : undo_of (record { done = a ∷ []; undone = b ∷ []; kept = 0 })
    ≡ record { done = a ∷ []; undone = b ∷ []; kept = 0 }
undone_no_further = refl

nothing_done_again : redo_of (taken None a nothing) ≡ taken None a nothing
nothing_done_again = refl

undone_given_up : taken None b (undo_of (taken None a nothing)) ≡ record { done = b ∷ []; undone = []; kept = 1 }
undone_given_up = refl

one_kept : taken (Some 1) b (taken (Some 1) a nothing) ≡ record { done = a ∷ b ∷ []; undone = []; kept = 1 }
one_kept = refl

none_kept : undo_of (taken (Some 0) a nothing) ≡ record { done = a ∷ []; undone = []; kept = 0 }
none_kept = refl

reached_lines : reached (taken (Some 1) b (taken (Some 1) a nothing)) (a ∷ b ∷ []) ≡ b ∷ []
reached_lines = refl

-- replies

abbrev typed : List ℕ → Typed
typed line = record { line = line; answer = []; refused = false }

abbrev unmet : List ℕ → Typed
unmet line = record { line = line; answer = []; refused = true }

-- a story that prints such a text, is at a place, and can be given each line or none
abbrev story : (List (List ℕ) → List ℕ) → Place → Bool → Telling
story text place takes =
    record {
      text = text;
      place = λ lines. place;
      takes = λ line. takes;
      given = λ lines x. x.line;
      asked = λ line. None;
    }

-- of two lines one is undone
abbrev between : Standing
between = record { done = a ∷ []; undone = b ∷ []; kept = 1 }

nothing_to_undo : (telling : Telling) → transcript_of telling None (typed (codes "/undo") ∷ [])
    ≡ telling.text [] ++ note (codes "[Nothing to undo.]")
unfolding answer_of
nothing_to_undo telling = refl

undone : (telling : Telling) → answer_of telling None between (typed (codes "/undo"))
    ≡ record {
      reply = note (codes "[Undone.]");
      standing = record { done = []; undone = a ∷ b ∷ []; kept = 0 };
    }
unfolding answer_of
undone telling = refl

-- an undo takes no memory: its mark changes nothing
undone_unmet : (telling : Telling) → answer_of telling None between (unmet (codes "/undo"))
    ≡ record {
      reply = note (codes "[Undone.]");
      standing = record { done = []; undone = a ∷ b ∷ []; kept = 0 };
    }
unfolding answer_of
undone_unmet telling = refl

nothing_to_redo : (telling : Telling) → answer_of telling None (taken None a nothing) (typed (codes "/redo"))
    ≡ record { reply = note (codes "[Nothing to redo.]"); standing = taken None a nothing }
unfolding answer_of
nothing_to_redo telling = refl

redone : (telling : Telling) → answer_of telling None between (typed (codes "/redo"))
    ≡ record {
      reply = note (codes "[Redone.]") ++ telling.text (a ∷ b ∷ []);
      standing = record { done = a ∷ b ∷ []; undone = []; kept = 2 };
    }
unfolding answer_of
redone telling = refl

-- nor does a redo
redone_unmet : (telling : Telling) → answer_of telling None between (unmet (codes "/redo"))
    ≡ record {
      reply = note (codes "[Redone.]") ++ telling.text (a ∷ b ∷ []);
      standing = record { done = a ∷ b ∷ []; undone = []; kept = 2 };
    }
unfolding answer_of
redone_unmet telling = refl

line_taken : (text : List (List ℕ) → List ℕ) → answer_of (story text Waiting true) (Some 1) between (typed a)
    ≡ record {
      reply = text (a ∷ a ∷ []);
      standing = record { done = a ∷ a ∷ []; undone = []; kept = 1 };
    }
unfolding answer_of
line_taken text = refl

line_not_taken : (text : List (List ℕ) → List ℕ) → answer_of (story text Waiting true) (Some 1) between (unmet a)
    ≡ record { reply = note (codes "[No memory: line not taken.]"); standing = between }
unfolding answer_of
line_not_taken text = refl

first_line_not_taken : (text : List (List ℕ) → List ℕ) → answer_of (story text Waiting true) None nothing (unmet a)
    ≡ record { reply = note (codes "[No memory: line not taken.]"); standing = nothing }
unfolding answer_of
first_line_not_taken text = refl

line_refused : (text : List (List ℕ) → List ℕ) → answer_of (story text Waiting false) (Some 1) between (typed a)
    ≡ record { reply = note (codes "[Line refused.]"); standing = between }
unfolding answer_of
line_refused text = refl

-- a line that asks is no turn
abbrev asking : Telling
asking = record (story (λ lines. []) Waiting true) { asked = λ line. Some (λ lines. note (codes "Garden")) }

asked : answer_of asking (Some 1) between (typed a) ≡ record { reply = note (codes "Garden"); standing = between }
unfolding answer_of
asked = refl

asked_unmet : answer_of asking (Some 1) between (unmet a)
    ≡ record { reply = note (codes "[No memory: line not taken.]"); standing = between }
unfolding answer_of
asked_unmet = refl

-- but the commands come first
undone_asking : answer_of asking None between (typed (codes "/undo"))
    ≡ record { reply = note (codes "[Undone.]"); standing = undo_of between }
unfolding answer_of
undone_asking = refl

story_over : (text : List (List ℕ) → List ℕ) → answer_of (story text Quit true) (Some 1) between (typed a)
    ≡ record { reply = note (codes "[The story is over.]"); standing = between }
unfolding answer_of
story_over text = refl

-- a story that is given what was answered for a line
answer_given : answer_of
    (record (story (λ lines. codes "Saved") Waiting true) { given = λ lines x. x.answer })
    None nothing (record { line = a; answer = b; refused = false })
    ≡ record { reply = codes "Saved"; standing = record { done = b ∷ []; undone = []; kept = 1 } }
unfolding answer_of
answer_given = refl
