-- What is said to a line.
use Rattle.std.specs.Prelude.{◌≡◌, ℕ, Bool, true, false, List, [], Option, None, Some, IfSome, Result, Ok, Err, length, option_map}
use Rattle.std.specs.Prelude.{if◌then◌else◌, string_bytes}
use Rattle.std.specs.Str.Lossy.{utf8_lossy}
use Rattle.serde_json.specs.Data.{Data, number, unsigned}
use Rattle.serde_json.specs.View.{view}
use Rattle.session.specs.Game.{Game, IsSessionOf, telling_of}
use Rattle.session.specs.Session.{Session}
use Rattle.session.specs.Sessions.{all_lines}
use Rattle.session_lines.specs.Standing.{Standing}
use Rattle.play_json.specs.Lines.{Lines}
use Rattle.play_json.specs.declared.kind.Kind.{Kind}
use Rattle.play_json.specs.declared.kind.Kind.TheVariants as kinds
use Rattle.play_json.specs.declared.request.Topic.{Topic}
use Rattle.play_json.specs.Answers.{Answer, IsAnswer, answer_given, answer_turn, kind_shown, saying, typed}
use Rattle.play_json.specs.declared.said.Said.{Said}

-- what is held from line to line
pub record Held : Type 0 where
  pub session : Session
  pub lines : Lines

abbrev pub held : Session → Lines → Held
held v l = record { session = v; lines = l }

-- These lines stand in the session, and its lines are those that are held.
pub record Stands (game : Game) (s : Standing) (h : Held) : Type 0 where
  pub session : IsSessionOf game s h.session
  pub all : h.lines.all ≡ all_lines s
  pub at : h.lines.at ≡ length s.done

-- what an answer leaves: its lines stand, and its marks are there
pub record Leaves (game : Game) (a : Answer) (h : Held) : Type 0 where
  pub stands : Stands game a.standing h
  pub marks : h.lines.marks ≡ a.marks

-- whether a reply shows more than where the story is
abbrev pub shows : Kind → Bool
shows kinds.Globals = true
shows kinds.Objects = true
shows kinds.Lines = true
shows kinds.Memory = true
shows kinds.Dictionary = true
shows kinds.Hash = true
shows kinds.Mark = true
shows _ = false

-- a reply of this kind is said, and no text
pub record IsSaying (kind : Kind) (said : Said) : Type 0 where
  pub is : said.kind ≡ kind
  pub text : string_bytes said.text ≡ []
  pub shown : shows kind ≡ false → said.shown ≡ None

-- a topic is shown, or it is bytes that the story does not have
abbrev pub IsShown : Topic → Said → Type 0
IsShown topic said = (refused : Bool) × IsSaying (kind_shown topic refused) said

-- the number of a new mark is shown
abbrev pub ShowsMark : Option ℕ → Option Data → Type 0
ShowsMark mark shown = IfSome mark (λ n. shown ≡ Some (number (unsigned n)))

-- An answer is said. In its text, what is not UTF-8 is U+FFFD.
pub record Matches (a : Answer) (said : Said) : Type 0 where
  pub kind : said.kind ≡ a.kind
  pub text : string_bytes said.text ≡ utf8_lossy a.text
  pub shown : shows a.kind ≡ false → said.shown ≡ None
  pub mark : ShowsMark a.mark (option_map view said.shown)

-- an answer is said, and its lines stand
abbrev pub IsSaid : Game → Answer → Held → Said → Type 0
IsSaid game a h said = Matches a said × Leaves game a h

-- the same, or memory was refused for what is said, and all that is known is the session
abbrev pub MayBeSaid : {E : Type 0} → Game → Answer → Held → Result Said E → Type 0
MayBeSaid game a h (Ok said) = IsSaid game a h said
MayBeSaid game a h (Err e) = IsSessionOf game a.standing h.session

-- the story was given a line, or what was answered for it
abbrev pub IsTaken : {E : Type 0} → Game → Standing → List (List (List ℕ)) → List ℕ → Held → Result Said E → Type 0
IsTaken game s marks line h result = (answered : List ℕ) × (refused : Bool)
    × MayBeSaid game (answer_turn (telling_of game) game.keep s marks (typed line answered refused)) h result

-- the story was given this for a name, or memory was refused for it
abbrev pub IsGiven : {E : Type 0} → Game → Standing → List (List (List ℕ)) → List ℕ → Held → Result Said E → Type 0
IsGiven game s marks given h result = (refused : Bool) × MayBeSaid game
    (if refused then saying kinds.NoMemory s marks else answer_given (telling_of game) game.keep s marks given) h result

-- a line was answered, and this is said to it
abbrev pub SaysThis : List ℕ → Held → Held → Said → Type 0
SaysThis line old new said = (game : Game) (s : Standing) → Stands game s old
    → (a : Answer) × IsAnswer game s old.lines.marks line a × IsSaid game a new said

-- a line was answered, and memory was refused for what is said to it
abbrev pub SaysNothing : List ℕ → Held → Held → Type 0
SaysNothing line old new = (game : Game) (s : Standing) → Stands game s old
    → (a : Answer) × IsAnswer game s old.lines.marks line a × IsSessionOf game a.standing new.session

abbrev pub Says : {E : Type 0} → List ℕ → Held → Held → Result Said E → Type 0
Says line old new (Ok said) = SaysThis line old new said
Says line old new (Err e) = SaysNothing line old new
