-- The picture of the upper window that a turn draws, which begins with a text: that of the turn before, or none.
use Rattle.std.specs.Prelude.{◌≡◌, ℕ, List, [], length, slice_index, Option, Some, None}
use Rattle.std.specs.Borrow.{Bor}
use Rattle.zcore.specs.declared.next.Next.{Next}
use Rattle.zcore.specs.State.{State, Pending, Out, done, halt}
use Rattle.zcore.specs.Turn.{first_next, first_state}
use Rattle.zcore_standard.specs.Machine.{begins, begins_after}
use Rattle.zcore_standard.specs.Place.{Here}
use Rattle.zcore_versions.specs.Versions.{Story}
use Rattle.machine_frames.specs.Contents.{Contents, memory_of}
use Rattle.machine_frames.specs.States.{state_of, pending_of, standard_state_of}
use Rattle.machine_picture.specs.Picture.{Picture, Draws, picture_from, picture_text}
use Rattle.machine_standard.specs.Playing.{any_waited}

-- after one text a turn draws a picture of another
pub record DrawsText (story : Story) (here : Here) (s : State) (drawing text : List ℕ) : Type 0 where
  pub picture : Picture
  pub draws : Draws story here s (picture_from drawing (length s.text)) picture
  pub told : text ≡ picture_text picture

-- a turn that what is given has begun, or ended at once
abbrev pub FollowsDrawing : (Next → State → List ℕ → List ℕ → Type 0) → Out Next → List ℕ → List ℕ → Type 0
FollowsDrawing turns (done next s) drawing text = turns next s drawing text
FollowsDrawing turns (halt place s) drawing text = text ≡ drawing

-- the turn of a store of a story that begins
abbrev pub OpensDrawing : Story → List (List ℕ) → Contents → ℕ → List ℕ → List ℕ → Type 0
OpensDrawing story kept s fuel drawing text =
    DrawsText story (begins story.loaded.dice kept (first_next (memory_of s) fuel)) (first_state (memory_of s)) drawing text

-- the turn of what is given to a store which waits; its text can begin before its first step
abbrev pub AnswersDrawing : Story → List ℕ → List (List ℕ) → Contents → ℕ → List ℕ → List ℕ → Type 0
AnswersDrawing story line kept s fuel drawing text =
    (pending : Pending)
    × (pending_of (slice_index s.cells) ≡ Some pending)
    × FollowsDrawing (λ next t. DrawsText story
    (begins_after (length t.text) (standard_state_of (slice_index s.cells)) kept next) t)
    (any_waited story pending line fuel (state_of s [])) drawing text

-- which turn is played: without a line the opening, else that of the line
abbrev pub OpensOrAnswersDrawing : Story → Option (Bor (List ℕ)) → List (List ℕ) → Contents → ℕ → List ℕ → List ℕ → Type 0
OpensOrAnswersDrawing story None = OpensDrawing story
OpensOrAnswersDrawing story (Some line) = AnswersDrawing story line.now
