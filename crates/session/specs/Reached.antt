-- What a turn led to, besides its store.
use Rattle.std.specs.Prelude.{ℕ, List, []}
use Rattle.zcore.specs.declared.place.Place.{Place}
use Rattle.session.specs.Showing.{nothing_shown}
use Rattle.session.specs.Shown.{Shown}
use Rattle.session.specs.declared.reached.Led.{Led}
use Rattle.session.specs.declared.reached.Led.TheVariants.{Bare, More}

pub record Reached : Type 0 where
  -- where it left the machine
  pub place : Place
  -- the states that the story has kept
  pub kept : List (List ℕ)
  -- what was shown of it besides its text
  pub shown : Shown

-- the last two are nothing where they are not there
abbrev pub reached_of : Led → Reached
reached_of (Bare place) = record { place = place; kept = []; shown = nothing_shown }
reached_of (More place extras) = record {
  place = place;
  kept = extras.value.kept;
  shown = record {
    drawing = extras.value.drawing;
    style = extras.value.style;
    marked = extras.value.marked;
  };
}
