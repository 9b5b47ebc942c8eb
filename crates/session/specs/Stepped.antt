-- What the calls of a session make of it: a turn back, a turn forward, one turn more, and the oldest given up.
use Rattle.std.specs.Prelude.{◌≡◌, ◌≤◌, ℕ, zero, suc, ◌+◌, ◌-◌, nat_lt, if◌then◌else◌, List, []}
use Rattle.std.specs.Prelude.{◌∷◌, ◌++◌, length, take, drop, slice_index_or, Option, Some, None}
use Rattle.zcore.specs.Header.{static_base_of}
use Rattle.zcore.specs.Turn.{Whole}
use Rattle.session_lines.specs.Standing.{Standing, redo_of}
use Rattle.session.specs.Session.{Session, largest_record}
use Rattle.session.specs.Shown.{Shown}
use Rattle.session.specs.Game.{IsSessionOf, InEach}

-- the text of the latest turn that is done
abbrev pub text_before : ℕ → Session → List ℕ
text_before zero v = v.given_up
text_before (suc turn) v = slice_index_or v.texts turn []

abbrev pub latest_text : Session → List ℕ
latest_text v = text_before v.present v

-- how many cells the record of the latest kept turn holds
abbrev pub size_before : ℕ → Session → ℕ
size_before zero v = 0
size_before (suc turn) v = slice_index_or v.sizes turn 0

abbrev pub latest_size : Session → ℕ
latest_size v = size_before v.present v

-- one turn back; where none is done, 0 - 1 is 0, and nothing changes
abbrev pub stepped_back : Session → Session
stepped_back v = record v { present = v.present - 1 }

-- one turn forward; where all are done, nothing changes
abbrev pub stepped_forward : Session → Session
stepped_forward v = if nat_lt v.present (length v.lines) then record v { present = v.present + 1 } else v

-- one turn more behind the present, and none after it
abbrev pub with_turn : List ℕ → ℕ → Whole → Shown → Session → Session
with_turn line size whole shown v = record v {
  states = take (v.present + 1) v.states ++ whole.state ∷ [];
  places = take (v.present + 1) v.places ++ whole.place ∷ [];
  shown = take (v.present + 1) v.shown ++ shown ∷ [];
  texts = take v.present v.texts ++ whole.text ∷ [];
  lines = take v.present v.lines ++ line ∷ [];
  sizes = take v.present v.sizes ++ size ∷ [];
  present = v.present + 1;
}

-- the oldest turn is given up
abbrev pub without_oldest : Session → Session
without_oldest v = record v {
  states = drop 1 v.states;
  places = drop 1 v.places;
  shown = drop 1 v.shown;
  texts = drop 1 v.texts;
  lines = drop 1 v.lines;
  sizes = drop 1 v.sizes;
  present = v.present - 1;
  given_up = slice_index_or v.texts 0 [];
}

-- no more turns than are kept
abbrev pub bounded_by : Option ℕ → Session → Session
bounded_by None v = v
bounded_by (Some most) v = if nat_lt most v.present then without_oldest v else v

abbrev pub bounded : Session → Session
bounded v = bounded_by v.keep v

-- what the record of the latest kept turn can hold: nothing where none is kept
abbrev pub IsSize : List ℕ → Standing → ℕ → Type 0
IsSize story s size = (s.kept ≡ 0 → size ≡ 0) × (size ≤ largest_record (static_base_of story))

-- what stands goes over into what `f` makes of it
abbrev pub Moves : (Standing → Standing) → Session → Session → Type 0
Moves f old new = InEach old (λ game s. IsSessionOf game (f s) new)

-- the turn after the present is done again, where there is one, and nothing else changes
pub record Redone (old new : Session) : Type 0 where
  pub stepped : new ≡ stepped_forward old
  pub stands : Moves redo_of old new
