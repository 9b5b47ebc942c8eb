-- What lines do to what is held and to a writer: `w` and `h` are what the writer holds and what is held before them,
-- `w'` and `h'` after them.
use Rattle.std.specs.Prelude.{◌≡◌, ℕ, List, [], ◌∷◌, ◌++◌, Option, Result, Ok, Err}
use Rattle.session.specs.Game.{Game, IsSessionOf}
use Rattle.session_lines.specs.Standing.{Standing}
use Rattle.play_json.specs.Answers.{Answer, IsAnswer}
use Rattle.play_json.specs.Said.{Held, Leaves, Stands}
use Rattle.play_json.specs.Told.{Broke, Told}

-- the line was answered, and the answer written
abbrev pub IsHeard : List ℕ → Option (List ℕ) → Held → Option (List ℕ) → Held → Type 0
IsHeard line w h w' h' = (game : Game) (s : Standing) → Stands game s h → (a : Answer)
    × IsAnswer game s h.lines.marks line a × Told game a w w' × Leaves game a h'

-- the line was answered, and writing the answer failed
abbrev pub IsBroken : List ℕ → Option (List ℕ) → Held → Option (List ℕ) → Held → Type 0
IsBroken line w h w' h' = (game : Game) (s : Standing) → Stands game s h → (a : Answer)
    × IsAnswer game s h.lines.marks line a × Broke game a w w' × IsSessionOf game a.standing h'.session

abbrev pub Answers : {E : Type 0} → List ℕ → Option (List ℕ) → Held → Option (List ℕ) → Held
    → Result (Unit {0}) E → Type 0
Answers line w h w' h' (Ok done) = IsHeard line w h w' h'
Answers line w h w' h' (Err e) = IsBroken line w h w' h'

-- lines were heard, one after another
abbrev pub Heard : List (List ℕ) → Option (List ℕ) → Held → Option (List ℕ) → Held → Type 0
Heard [] w h w' h' = (w' ≡ w) × (h' ≡ h)
Heard (line ∷ lines) w h w' h' = (w1 : Option (List ℕ)) × (h1 : Held) × IsHeard line w h w1 h1
    × Heard lines w1 h1 w' h'

-- some lines were heard, and writing failed in the reply to the one after them; more lines were left
pub record BrokeIn (lines : List (List ℕ)) (w : Option (List ℕ)) (h : Held) (w' : Option (List ℕ)) (h' : Held)
    : Type 0 where
  pub heard : List (List ℕ)
  pub last : List ℕ
  pub more : List (List ℕ)
  pub all : heard ++ last ∷ more ≡ lines
  pub holds : Option (List ℕ)
  pub before : Held
  pub went : Heard heard w h holds before
  pub broke : IsBroken last holds before w' h'

abbrev pub Hears : {E : Type 0} → List (List ℕ) → Option (List ℕ) → Held → Option (List ℕ) → Held
    → Result (Unit {0}) E → Type 0
Hears lines w h w' h' (Ok done) = Heard lines w h w' h'
Hears lines w h w' h' (Err e) = BrokeIn lines w h w' h'
