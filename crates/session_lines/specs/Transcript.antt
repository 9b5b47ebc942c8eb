-- The reply to a line, and the transcript of many.
use Rattle.std.specs.Prelude.{ℕ, Bool, Option, Some, None, ◌==◌, List, [], ◌∷◌, ◌++◌, length, map, bytes_eq, codes}
use Rattle.std.specs.Prelude.{if◌then◌else◌}
use Rattle.zcore.specs.declared.place.Place.{Place}
use Rattle.zcore.specs.Turn.{is_waiting}
use Rattle.session_lines.specs.Standing.{Standing, nothing, taken, undo_of, redo_of}

-- a line of input, and its marks: what was answered if the story asked for it, and whether it met refused memory
pub record Typed : Type 0 where
  pub line : List ℕ
  pub answer : List ℕ
  pub refused : Bool

-- What a story does on lines, whatever it is made of: what it prints last, where it is then, and what it can be given.
pub record Telling : Type 0 where
  pub text : List (List ℕ) → List ℕ
  pub place : List (List ℕ) → Place
  -- which lines it can be given
  pub takes : List ℕ → Bool
  -- what it is given for one, after others
  pub given : List (List ℕ) → Typed → List ℕ
  -- what is replied to a line that only asks where the story is, and is none for it
  pub asked : List ℕ → Option (List (List ℕ) → List ℕ)

-- the lines without their marks
abbrev pub lines_typed : List Typed → List (List ℕ)
lines_typed typed = map (λ (x : Typed). x.line) typed

-- the reply to a line, and what stands after it
pub record Answer : Type 0 where
  pub reply : List ℕ
  pub standing : Standing

-- a notice and its newline
abbrev pub note : List ℕ → List ℕ
note words = words ++ 10 ∷ []

abbrev pub answer_undo : Standing → Answer
answer_undo s = record {
  reply = if s.kept == 0 then note (codes "[Nothing to undo.]") else note (codes "[Undone.]");
  standing = undo_of s;
}

abbrev pub answer_redo : Telling → Standing → Answer
answer_redo telling s = record {
  reply =
      if length s.undone == 0 then note (codes "[Nothing to redo.]")
      else note (codes "[Redone.]") ++ telling.text (redo_of s).done;
  standing = redo_of s;
}

-- A line that asks leaves all as it is. Of the turns of lines for the story so many are kept; of two notices that hold
-- the first is given.
abbrev pub answer_line : Option (List (List ℕ) → List ℕ) → Telling → Option ℕ → Standing → Typed → Answer
answer_line (Some reply) telling keep s x =
    record { reply = if x.refused then note (codes "[No memory: line not taken.]") else reply s.done; standing = s }
answer_line None telling keep s x =
    if telling.takes x.line then (
    if is_waiting (telling.place s.done) then (
    if x.refused then (record { reply = note (codes "[No memory: line not taken.]"); standing = s })
    else (let given = telling.given s.done x in
    record { reply = telling.text (s.done ++ given ∷ []); standing = taken keep given s }))
    else (record { reply = note (codes "[The story is over.]"); standing = s }))
    else (record { reply = note (codes "[Line refused.]"); standing = s })

unfoldable pub answer_of : Telling → Option ℕ → Standing → Typed → Answer
answer_of telling keep s x =
    if bytes_eq x.line (codes "/undo") then answer_undo s
    else (if bytes_eq x.line (codes "/redo") then answer_redo telling s
    else answer_line (telling.asked x.line) telling keep s x)

-- the replies in order
abbrev pub replies_of : Telling → Option ℕ → Standing → List Typed → List ℕ
replies_of telling keep s [] = []
replies_of telling keep s (x ∷ xs) =
    (answer_of telling keep s x).reply ++ replies_of telling keep (answer_of telling keep s x).standing xs

-- what stands after the lines
abbrev pub standing_after : Telling → Option ℕ → Standing → List Typed → Standing
standing_after telling keep s [] = s
standing_after telling keep s (x ∷ xs) = standing_after telling keep (answer_of telling keep s x).standing xs

-- the text of the opening, then the replies in order
abbrev pub transcript_of : Telling → Option ℕ → List Typed → List ℕ
transcript_of telling keep typed = telling.text [] ++ replies_of telling keep nothing typed
