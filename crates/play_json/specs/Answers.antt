-- What is replied to a line, and which lines stand and are marked after it.
use Rattle.std.specs.Prelude.{◌≡◌, ◌<◌, ◌≤◌, ℕ, ◌==◌, ◌-◌, if◌then◌else◌, suc, Bool, List, [], ◌∷◌, ◌++◌, bytes_eq, length}
use Rattle.std.specs.Prelude.{Option, None, Some, slice_get, option_and_then}
use Rattle.zcore.specs.Turn.{is_waiting}
use Rattle.session.specs.Game.{Game, telling_of}
use Rattle.session.specs.Sessions.{all_lines}
use Rattle.session_lines.specs.Standing.{Standing, nothing, longest_line, taken, undo_of, redo_of}
use Rattle.session_lines.specs.Transcript.{Telling, Typed}
use Rattle.play_json.specs.Requests.{kind_of, mark_in, request_of}
use Rattle.play_json.specs.declared.kind.Kind.{Kind}
use Rattle.play_json.specs.declared.kind.Kind.TheVariants as kinds
use Rattle.play_json.specs.declared.request.Request.{Request}
use Rattle.play_json.specs.declared.request.Request.TheVariants.{Undo, Redo, Show, Mark, Go, Turn, Unknown}
use Rattle.play_json.specs.declared.request.Topic.{Topic}

pub record Answer : Type 0 where
  pub kind : Kind
  -- what the story printed
  pub text : List ℕ
  pub standing : Standing
  -- the lines of each mark
  pub marks : List (List (List ℕ))
  -- the number of a new mark
  pub mark : Option ℕ

-- nothing was printed, and nothing was marked
abbrev pub saying : Kind → Standing → List (List (List ℕ)) → Answer
saying kind s marks = record { kind = kind; text = []; standing = s; marks = marks; mark = None }

-- this was printed
abbrev pub printing : Kind → List ℕ → Standing → List (List (List ℕ)) → Answer
printing kind text s marks = record { kind = kind; text = text; standing = s; marks = marks; mark = None }

abbrev pub opening_of : Telling → Answer
opening_of telling = printing kinds.Opening (telling.text []) nothing []

abbrev pub answer_undo : Standing → List (List (List ℕ)) → Answer
answer_undo s marks = saying (if s.kept == 0 then kinds.NothingToUndo else kinds.Undone) (undo_of s) marks

abbrev pub answer_redo : Telling → Standing → List (List (List ℕ)) → Answer
answer_redo telling s marks =
    if length s.undone == 0 then saying kinds.NothingToRedo (redo_of s) marks
    else printing kinds.Redone (telling.text (redo_of s).done) (redo_of s) marks

-- the story is given this
abbrev pub answer_given : Telling → Option ℕ → Standing → List (List (List ℕ)) → List ℕ → Answer
answer_given telling keep s marks given =
    printing kinds.Taken (telling.text (s.done ++ given ∷ [])) (taken keep given s) marks

-- it is given the line, or what was answered for it if it asked for the name of a saved game
abbrev pub answer_turn : Telling → Option ℕ → Standing → List (List (List ℕ)) → Typed → Answer
answer_turn telling keep s marks x =
    if telling.takes x.line then (
    if is_waiting (telling.place s.done) then (
    if x.refused then saying kinds.NoMemory s marks
    else answer_given telling keep s marks (telling.given s.done x))
    else saying kinds.Over s marks)
    else saying kinds.Refused s marks

-- marks are numbered from 0
abbrev pub answer_mark : Standing → List (List (List ℕ)) → Answer
answer_mark s marks = record {
  kind = kinds.Mark;
  text = [];
  standing = s;
  marks = marks ++ s.done ∷ [];
  mark = Some (length marks);
}

-- how many lines two lists begin with alike
abbrev pub common : List (List ℕ) → List (List ℕ) → ℕ
common [] ys = 0
common (x ∷ xs) [] = 0
common (x ∷ xs) (y ∷ ys) = if bytes_eq x y then suc (common xs ys) else 0

-- `/go` to these lines: they stand then; or memory was refused, and nothing is changed or a beginning of them stands; or
-- a turn that would have to be undone is given up, and nothing is changed. A line that was a name is what the story was
-- given for it before, and no file is looked at.
pub data MayGo (s : Standing) (marks : List (List (List ℕ))) (lines : List (List ℕ)) (a : Answer) : Type 0 where
  gone : (t : Standing) → t.done ≡ lines → a ≡ saying kinds.Gone t marks → MayGo s marks lines a
  none : a ≡ saying kinds.NoMemory s marks → MayGo s marks lines a
  short : (t : Standing) (more : List (List ℕ)) → t.done ++ more ≡ lines → a ≡ saying kinds.NoMemory t marks
      → MayGo s marks lines a
  far : s.kept < length s.done - common (all_lines s) lines → a ≡ saying kinds.GivenUp s marks → MayGo s marks lines a

-- `/go` to a mark, if there is this one
abbrev pub MayGoTo : Standing → List (List (List ℕ)) → Option (List (List ℕ)) → Answer → Type 0
MayGoTo s marks None a = a ≡ saying kinds.NoMark s marks
MayGoTo s marks (Some lines) a = MayGo s marks lines a

-- a topic is shown, or it is bytes that the story does not have
abbrev pub kind_shown : Topic → Bool → Kind
kind_shown topic refused = if refused then kinds.NoBytes else kind_of topic

-- a line, with what was answered if the story asked for a name, and whether it met refused memory
abbrev pub typed : List ℕ → List ℕ → Bool → Typed
typed line answered refused = record { line = line; answer = answered; refused = refused }

-- An answer to a line that asks for this. It may have met refused memory, or ask for bytes that the story does not
-- have.
abbrev pub AnswersTo : Game → Standing → List (List (List ℕ)) → List ℕ → Request → Answer → Type 0
AnswersTo game s marks line Undo a = a ≡ answer_undo s marks
AnswersTo game s marks line Redo a = a ≡ answer_redo (telling_of game) s marks
AnswersTo game s marks line Turn a = (answered : List ℕ) × (refused : Bool)
    × (a ≡ answer_turn (telling_of game) game.keep s marks (typed line answered refused))
AnswersTo game s marks line (Show topic) a = (refused : Bool) × (a ≡ saying (kind_shown topic refused) s marks)
AnswersTo game s marks line Mark a = a ≡ answer_mark s marks
AnswersTo game s marks line Go a = MayGoTo s marks (option_and_then (slice_get marks) (mark_in line)) a
AnswersTo game s marks line Unknown a = a ≡ saying kinds.Unknown s marks

-- an answer of a game to a line, by the lines that stand and are marked before it
pub record IsAnswer (game : Game) (s : Standing) (marks : List (List (List ℕ))) (line : List ℕ) (a : Answer)
    : Type 0 where
  pub short : length line ≤ longest_line → AnswersTo game s marks line (request_of line) a
  pub long : longest_line < length line → a ≡ saying kinds.TooLong s marks
