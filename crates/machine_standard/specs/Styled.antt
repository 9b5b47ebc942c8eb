-- The styles of what a turn prints, from the style with which the turn before ended.
use Rattle.std.specs.Prelude.{◌≡◌, ℕ, List, [], length, slice_index, Option, Some, None}
use Rattle.std.specs.Borrow.{Bor}
use Rattle.std.specs.Option.{unwrap_or}
use Rattle.zcore.specs.declared.next.Next.{Next}
use Rattle.zcore.specs.State.{State, Pending, Out, done, halt}
use Rattle.zcore.specs.Turn.{StateOfPlay, after_step, first_next, first_state, resumed, weight}
use Rattle.zcore_standard.specs.Machine.{begins, begins_after}
use Rattle.zcore_standard.specs.Place.{Here}
use Rattle.zcore_standard.specs.Saving.{given_to, save_form_of}
use Rattle.zcore_versions.specs.Reading.{any_given}
use Rattle.zcore_versions.specs.Versions.{Story}
use Rattle.machine_frames.specs.Contents.{Contents, memory_of}
use Rattle.machine_frames.specs.States.{state_of, pending_of, standard_state_of}
use Rattle.machine_picture.specs.Styles.{IsStyled, Styles, begun, styles_by}
use Rattle.machine_standard.specs.Playing.{any_waited}

-- a turn from a place on, after what the player has printed
abbrev pub StylesFrom : Story → Here → State → ℕ → Styles → Type 0
StylesFrom story here s style last = IsStyled story here s (begun style (length s.text)) last

-- a turn that what is given has begun, or ended at once
abbrev pub FollowsStyles : (Next → State → ℕ → Styles → Type 0) → Out Next → ℕ → Styles → Type 0
FollowsStyles turns (done next s) style last = turns next s style last
FollowsStyles turns (halt place s) style last = last ≡ begun style (length s.text)

-- the turn of a store of a story that begins
abbrev pub OpensStyles : Story → List (List ℕ) → Contents → ℕ → ℕ → Styles → Type 0
OpensStyles story kept s fuel style last =
    StylesFrom story (begins story.loaded.dice kept (first_next (memory_of s) fuel)) (first_state (memory_of s)) style last

-- the turn of what is given to a store which waits; its text can begin before its first step
abbrev pub AnswersStyles : Story → List ℕ → List (List ℕ) → Contents → ℕ → ℕ → Styles → Type 0
AnswersStyles story line kept s fuel style last =
    (pending : Pending)
    × (pending_of (slice_index s.cells) ≡ Some pending)
    × FollowsStyles (λ next t. StylesFrom story
    (begins_after (length t.text) (standard_state_of (slice_index s.cells)) kept next) t)
    (any_waited story pending line fuel (state_of s [])) style last

-- which turn is played: without a line the opening, else that of the line
abbrev pub OpensOrAnswersStyles : Story → Option (Bor (List ℕ)) → List (List ℕ) → Contents → ℕ → ℕ → Styles → Type 0
OpensOrAnswersStyles story None = OpensStyles story
OpensOrAnswersStyles story (Some line) = AnswersStyles story line.now

-- Whole turns

-- a turn has at most as many steps as its weight
unfoldable pub any_styles : Story → Here → State → ℕ → Styles
any_styles story here s style =
    unwrap_or (styles_by story (weight here.next s) here s (begun style (length s.text))) (begun style 0)

-- that of the opening of a story, as its memory is after loading: it begins plain
unfoldable pub opening_styles : Story → List ℕ → ℕ → Styles
opening_styles story memory fuel =
    any_styles story (begins story.loaded.dice [] (first_next memory fuel)) (first_state memory) 0

abbrev pub pending_styles : Story → Option Pending → List ℕ → ℕ → ℕ → StateOfPlay → Styles
pending_styles story None line fuel style play = begun style 0
pending_styles story (Some pending) line fuel style play =
    after_step (given_to story.loaded (save_form_of story.version.number) (any_given story) pending line fuel (resumed play))
    (λ next s. any_styles story (begins_after (length s.text) play.standard_state play.kept next) s style)
    (λ place s. begun style (length s.text))

-- and of the turn of what is given to a state of play that waits for it
unfoldable pub styles_on : Story → List ℕ → ℕ → ℕ → StateOfPlay → Styles
styles_on story line fuel style play = pending_styles story play.pending line fuel style play
