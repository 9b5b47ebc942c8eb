-- What is written of an answer.
use Rattle.std.specs.Prelude.{◌≡◌, ◌⊎◌, ℕ, ◌==◌, if◌then◌else◌, Bool, true, false, List, [], length, Option, None, Some}
use Rattle.std.specs.Prelude.{Result, Ok, Err, is_some, option_map, string_bytes}
use Rattle.std.specs.Io.KnownBytes.{Appends}
use Rattle.std.specs.Str.Lossy.{utf8_lossy}
use Rattle.serde_json.specs.Data.{Data, array, no_items, null, string}
use Rattle.serde_json.specs.View.{view}
use Rattle.zcore.specs.Turn.{is_waiting}
use Rattle.session.specs.Game.{Game, asked_for_on, marked_on, place_on, status_on}
use Rattle.session_lines.specs.Wrote.{WroteSome}
use Rattle.play_json.specs.Names.{awaited_at}
use Rattle.play_json.specs.Objects.{IsLineOf, object_of}
use Rattle.play_json.specs.Spans.{spans_data}
use Rattle.play_json.specs.Windows.{window_data}
use Rattle.play_json.specs.declared.first.First.{First}
use Rattle.play_json.specs.declared.kind.Kind.{Kind}
use Rattle.play_json.specs.declared.kind.Kind.TheVariants as kinds
use Rattle.play_json.specs.declared.reply.Reply.{Reply}
use Rattle.play_json.specs.declared.telling.Above.{Above}
use Rattle.play_json.specs.Answers.{Answer}
use Rattle.play_json.specs.Said.{ShowsMark, shows}

-- a status line, or null where there is none
abbrev pub status_data : List ℕ → Data
status_data line = if length line == 0 then null else string (utf8_lossy line)

-- what a story shows above its text: the status text, and its rows
pub record IsAbove (text : List ℕ) (above : Above) : Type 0 where
  pub status : view above.status ≡ status_data text
  pub window : view above.window ≡ window_data text

-- whether the text of a reply is that of the opening or of a turn
abbrev pub has_text : Kind → Bool
has_text kinds.Opening = true
has_text kinds.Taken = true
has_text kinds.Redone = true
has_text _ = false

-- where the text of a reply has a style, read off the text with marks; and that, where styles are kept
abbrev pub spans_told : Kind → List ℕ → Data
spans_told kind marked = if has_text kind then spans_data marked else array no_items

abbrev pub styles_data : Bool → Kind → List ℕ → Option Data
styles_data keeps kind marked = if keeps then Some (spans_told kind marked) else None

-- A reply says what the answer is, and where the story is on the lines that stand after it; the first object of a
-- session tells more. It waits for a name where the story asks for one. Whether it waits for a line or a key, what it
-- tells of its player, and what is shown that was asked for, is not said here.
pub record IsReplyOf (game : Game) (a : Answer) (told : Option First) (reply : Reply) : Type 0 where
  pub kind : reply.kind ≡ a.kind
  pub text : string_bytes reply.text ≡ utf8_lossy a.text
  pub place : reply.place ≡ place_on game a.standing.done
  pub is_key : Bool
  pub awaited : reply.awaited
      ≡ awaited_at (is_some (asked_for_on game a.standing.done)) is_key (is_waiting (place_on game a.standing.done))
  pub done : reply.done ≡ a.standing.kept
  pub undone : reply.undone ≡ length a.standing.undone
  pub status : view reply.status ≡ status_data (status_on game a.standing.done)
  pub window : view reply.window ≡ window_data (status_on game a.standing.done)
  pub styles : option_map view reply.styles
      ≡ styles_data game.showing.styles a.kind (marked_on game a.standing.done)
  pub first : reply.first ≡ told
  pub shown : shows a.kind ≡ false → reply.shown ≡ None
  pub mark : ShowsMark a.mark (option_map view reply.shown)

-- its object was written on one line
pub record ToldAs (game : Game) (a : Answer) (first : Option First) (w w' : Option (List ℕ)) : Type 0 where
  pub reply : Reply
  pub says : IsReplyOf game a first reply
  pub line : List ℕ
  pub object : IsLineOf (object_of reply) line
  pub wrote : Appends w w' line

-- nothing was written, or a beginning of that line
pub record BrokeLine (game : Game) (a : Answer) (first : Option First) (w w' : Option (List ℕ)) : Type 0 where
  pub reply : Reply
  pub says : IsReplyOf game a first reply
  pub line : List ℕ
  pub object : IsLineOf (object_of reply) line
  pub wrote : WroteSome w w' line

abbrev pub BrokeAs : Game → Answer → Option First → Option (List ℕ) → Option (List ℕ) → Type 0
BrokeAs game a first w w' = (w' ≡ w) ⊎ BrokeLine game a first w w'

abbrev pub TellsAs : {E : Type 0} → Game → Answer → Option First → Option (List ℕ) → Option (List ℕ)
    → Result (Unit {0}) E → Type 0
TellsAs game a first w w' (Ok done) = ToldAs game a first w w'
TellsAs game a first w w' (Err e) = BrokeAs game a first w w'

-- the object of a reply that is not the first
abbrev pub Told : Game → Answer → Option (List ℕ) → Option (List ℕ) → Type 0
Told game a w w' = ToldAs game a None w w'

abbrev pub Broke : Game → Answer → Option (List ℕ) → Option (List ℕ) → Type 0
Broke game a w w' = BrokeAs game a None w w'

abbrev pub Tells : {E : Type 0} → Game → Answer → Option (List ℕ) → Option (List ℕ) → Result (Unit {0}) E → Type 0
Tells game a w w' result = TellsAs game a None w w' result
