-- The way to the lines of a mark, and what its steps do to what is held.
use Rattle.std.specs.Prelude.{◌≡◌, ◌<◌, ◌≤◌, ◌+◌, ◌-◌, ℕ, List, ◌++◌, drop, length, map, take}
use Rattle.std.specs.Prelude.{Option, None, Some, slice_get, Result, Ok, Err}
use Rattle.session.specs.Game.{Game, IsSessionOf}
use Rattle.session.specs.Sessions.{all_lines}
use Rattle.session_lines.specs.Standing.{Standing, taken}
use Rattle.play_json.specs.Answers.{MayGo, common, saying}
use Rattle.play_json.specs.Lines.{Lines}
use Rattle.play_json.specs.Said.{Held, Stands}
use Rattle.play_json.specs.declared.kind.Kind.{Kind}
use Rattle.play_json.specs.declared.kind.Kind.TheVariants as kinds
use Rattle.play_json.specs.declared.returning.Unplayed.{Unplayed}
use Rattle.play_json.specs.declared.returning.Unplayed.TheVariants.{Turn, Line}
use Rattle.play_json.specs.declared.lines.Way.{Way}

-- It parts from all lines that are held, also the undone ones, after those that both begin with.
pub record IsWayTo (l : Lines) (lines : List (List ℕ)) (way : Way) : Type 0 where
  pub common : way.common ≡ common l.all lines
  pub rest : map (λ rc. rc.value.given.items) way.rest.items ≡ drop way.common lines

-- the way to the mark of this number, if there is this one
abbrev pub IsWay : Lines → ℕ → Option Way → Type 0
IsWay l number None = slice_get l.marks number ≡ None
IsWay l number (Some way) = (lines : List (List ℕ)) × (slice_get l.marks number ≡ Some lines) × IsWayTo l lines way

-- the same lines are held, and so many of them stand; nothing else is changed
pub record Steps (game : Game) (s : Standing) (lines : ℕ) (old new : Held) : Type 0 where
  pub to : Standing
  pub stands : Stands game to new
  pub all : all_lines to ≡ all_lines s
  pub count : length to.done ≡ lines
  pub marks : new.lines.marks ≡ old.lines.marks

-- turns are taken back, so that no more than so many lines stand, if so many turns are kept
abbrev pub SteppedBack : ℕ → Held → Held → Type 0
SteppedBack most old new = (game : Game) (s : Standing) → Stands game s old → length s.done - most ≤ s.kept
    → Steps game s (length s.done - (length s.done - most)) old new

-- turns are done again, so that no fewer than so many lines stand, if there are so many
abbrev pub SteppedForward : ℕ → Held → Held → Type 0
SteppedForward fewest old new = (game : Game) (s : Standing) → Stands game s old → fewest ≤ length (all_lines s)
    → Steps game s (length s.done + (fewest - length s.done)) old new

-- these lines stand, and the marks are there
pub record Holds (game : Game) (t : Standing) (marked : List (List (List ℕ))) (h : Held) : Type 0 where
  pub stands : Stands game t h
  pub marks : h.lines.marks ≡ marked

-- a line was played, or memory was refused for its turn, or for keeping it
abbrev pub PlaysLine : Game → Standing → List (List (List ℕ)) → List ℕ → Held → Result (Unit {0}) Unplayed → Type 0
PlaysLine game s marks line h (Ok done) = Holds game (taken game.keep line s) marks h
PlaysLine game s marks line h (Err Turn) = Holds game s marks h
PlaysLine game s marks line h (Err Line) = IsSessionOf game (taken game.keep line s) h.session

-- lines were played after those that stood, all or some
abbrev pub PlaysAll : Game → Standing → List (List (List ℕ)) → List (List ℕ) → Held → Result (Unit {0}) Unplayed → Type 0
PlaysAll game s marks lines h (Ok done) = (t : Standing) × (t.done ≡ s.done ++ lines) × Holds game t marks h
PlaysAll game s marks lines h (Err Turn) = (t : Standing) × (more : List (List ℕ))
    × (t.done ++ more ≡ s.done ++ lines) × Holds game t marks h
PlaysAll game s marks lines h (Err Line) = (t : Standing) × (more : List (List ℕ))
    × (t.done ++ more ≡ s.done ++ lines) × IsSessionOf game t h.session

-- the way was followed, and this is replied
abbrev pub Comes : {E : Type 0} → Game → Standing → List (List (List ℕ)) → List (List ℕ) → Held → Result Kind E
    → Type 0
Comes game s marks lines h (Ok kind) = (t : Standing) × MayGo s marks lines (saying kind t marks)
    × Holds game t marks h
Comes game s marks lines h (Err e) = (t : Standing) × MayGo s marks lines (saying kinds.NoMemory t marks)
    × IsSessionOf game t h.session
