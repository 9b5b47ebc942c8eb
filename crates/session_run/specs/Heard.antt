-- What lines do to a session and a writer: `w` and `w'` are what the writer holds before and after, where that is
-- known; `s` stands before, and of the marks of the lines and of what
-- stands after them `P` holds.
use Rattle.std.specs.Prelude.{Option, ◌≡◌, ℕ, Bool, if◌then◌else◌, List, [], ◌∷◌, ◌++◌, codes, Result, Ok, Err}
use Rattle.std.specs.Io.KnownBytes.{Appends}
use Rattle.session.specs.Asking.{told_at}
use Rattle.session.specs.Game.{Game, answer, replies, after, place_on, status_on}
use Rattle.session_lines.specs.Standing.{Standing}
use Rattle.session_lines.specs.Transcript.{Typed, lines_typed, note}
use Rattle.session_lines.specs.Wrote.{WroteText}

-- the lines were answered, and the replies written
pub record Heard (game : Game) (w w' : Option (List ℕ)) (s : Standing) (P : List Typed → Standing → Type 0)
    (lines : List (List ℕ)) : Type 0 where
  pub typed : List Typed
  pub said : lines_typed typed ≡ lines
  pub wrote : Appends w w' (replies game s typed)
  pub stands : P typed (after game s typed)

-- lines were answered, and writing failed in the reply to the last of these; more lines were left
pub record Broke (game : Game) (w w' : Option (List ℕ)) (s : Standing) (P : List Typed → Standing → Type 0)
    (lines : List (List ℕ)) : Type 0 where
  pub typed : List Typed
  pub last : Typed
  pub more : List (List ℕ)
  pub said : lines_typed typed ++ last.line ∷ more ≡ lines
  pub part : List ℕ
  pub rest : List ℕ
  pub whole : part ++ rest ≡ (answer game (after game s typed) last).reply
  pub wrote : Appends w w' (replies game s typed ++ part)
  pub stands : P (typed ++ last ∷ []) (answer game (after game s typed) last).standing

abbrev pub Hears : {E : Type 0} → Game → Option (List ℕ) → Option (List ℕ) → Standing → (List Typed → Standing → Type 0)
    → List (List ℕ) → Result (Unit {0}) E → Type 0
Hears game w w' s P lines (Ok done) = Heard game w w' s P lines
Hears game w w' s P lines (Err e) = Broke game w w' s P lines

-- the reply to a line that asks for the status line, by its mark
abbrev pub asked_reply : Game → Standing → Bool → List ℕ
asked_reply game s refused =
    if refused then note (codes "[No memory: line not taken.]")
    else told_at (place_on game s.done) (status_on game s.done)

-- it was written, for one mark
abbrev pub TellsStatus : {E : Type 0} → Game → Standing → Option (List ℕ) → Option (List ℕ) → Result (Unit {0}) E → Type 0
TellsStatus game s w w' result = (refused : Bool) × WroteText w w' (asked_reply game s refused) result
