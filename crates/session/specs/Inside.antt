-- What a session's fields stand for.
use Rattle.std.specs.Prelude.{◌≡◌, ◌≤◌, ℕ, List, [], ◌∷◌, length, map, slice_index_or}
use Rattle.std.specs.List.{All, zip}
use Rattle.zcore.specs.Turn.{StateOfPlay}
use Rattle.zcore_standard.specs.Machine.{play_keeping}
use Rattle.journal.specs.Recording.{Recording, IsNothingKept}
use Rattle.journal.specs.Swap.{Fits, Swapped}
use Rattle.zcore.specs.declared.place.Place.{Place}
use Rattle.zcore.specs.declared.place.Place.TheVariants as places
use Rattle.machine_frames.specs.Contents.{Contents, bound_of}
use Rattle.machine_frames.specs.States.{play_of, IsStoreOf}
use Rattle.session.specs.declared.mode.Keep.{Keep}
use Rattle.session.specs.Reached.{Reached}
use Rattle.session.specs.declared.turns.Turn.{Turn}
use Rattle.session.specs.Modes.{Known, IsSettled, CanTake}
use Rattle.session.specs.Session.{Session, largest_record}
use Rattle.session.specs.Showing.{nothing_shown, showing_of}
use Rattle.session.specs.Shown.{Shown}
use Rattle.session_lines.specs.Written.{text_of, line_of}
use Rattle.session.specs.Times.{all_cells}

-- what the turns overwrote
abbrev pub records_of : List Turn → List (List (ℕ × ℕ))
records_of turns = map (λ t. t.overwritten) turns

-- a store with other cells
abbrev pub with_cells : Contents → List ℕ → Contents
with_cells s cells = record { cells = cells; fixed = s.fixed }

-- A turn is taken back, or done again: its record is swapped with the store's cells, by `back` or by `forward`. The
-- other of the two would undo that, and nothing is recorded then.
pub record Swaps (swap other : List ℕ → List (ℕ × ℕ) → Swapped) (old new : Recording Contents) (was now : Turn)
    : Type 0 where
  pub store : new.store ≡ with_cells old.store (swap old.store.cells was.overwritten).cells
  pub turn : now ≡ record was { overwritten = (swap old.store.cells was.overwritten).entries }
  pub inverse : other new.store.cells now.overwritten
      ≡ record { cells = old.store.cells; entries = was.overwritten }
  pub fits : Fits (length new.store.cells) bound_of now.overwritten
  pub size : length new.store.cells ≡ length old.store.cells
  pub idle : IsNothingKept new
  pub begun : new.beginning ≡ new.store.cells

-- where the machine stood, from the first place on
abbrev pub places_of : Reached → List Turn → List Place
places_of first turns = first.place ∷ map (λ t. t.reached.place) turns

abbrev pub place_at : Reached → List Turn → ℕ → Place
place_at first turns k = slice_index_or (places_of first turns) k places.Quit

-- the cells of a store after so many of the turns, where `done` of them are done
abbrev pub cells_at : Contents → List Turn → ℕ → ℕ → List ℕ
cells_at store turns done k = slice_index_or (all_cells store.cells (records_of turns) done) k []

-- what the story has kept, from the first state on
abbrev pub kept_of : Reached → List Turn → List (List (List ℕ))
kept_of first turns = first.kept ∷ map (λ t. t.reached.kept) turns

-- what was shown, from the first state on
abbrev pub all_shown : Reached → List Turn → List Shown
all_shown first turns = first.shown ∷ map (λ t. t.reached.shown) turns

abbrev pub shown_at : Reached → List Turn → ℕ → Shown
shown_at first turns k = slice_index_or (all_shown first turns) k nothing_shown

-- a state of play, by the cells of a store and what the story has kept
abbrev pub play_at : Contents → List ℕ × List (List ℕ) → StateOfPlay
play_at store x = play_keeping x.1 (play_of (with_cells store x.0))

unfoldable pub view_of :
    Keep → ℕ → Known → List ℕ → Contents → Reached → List Turn → ℕ → List ℕ → Session
view_of keep fuel known opening store first turns done given_up = record {
  keep = keep.turns;
  showing = showing_of keep;
  fuel = fuel;
  loaded = known.loaded;
  static_base = known.header.static_base;
  opening = opening;
  states = map (play_at store) (zip (all_cells store.cells (records_of turns) done) (kept_of first turns));
  places = places_of first turns;
  shown = all_shown first turns;
  texts = map (λ t. text_of t.written) turns;
  lines = map (λ t. line_of t.written) turns;
  sizes = map (λ t. length t.overwritten) turns;
  present = done;
  given_up = given_up;
}

-- a store of this machine, which can be given what it waits for
pub record IsReady (known : Known) (s : Contents) (place : Place) : Type 0 where
  pub store : IsStoreOf known.header s
  pub waits : place ≡ places.Waiting → CanTake known.loaded s

-- Nothing is recorded between turns, each record fits the store, and at all times that the records reach the store
-- was one of this machine.
pub record IsBetweenTurns (known : Known) (store : Recording Contents) (first : Reached) (turns : List Turn)
    (done : ℕ) : Type 0 where
  pub settled : IsSettled known
  pub within : done ≤ length turns
  pub idle : IsNothingKept store
  pub begun : store.beginning ≡ store.store.cells
  pub fits : All (Fits (length store.store.cells) bound_of) (records_of turns)
  pub small : All (λ r. length r ≤ largest_record known.header.static_base) (records_of turns)
  pub ready : (k : ℕ) → k ≤ length turns
      → IsReady known (with_cells store.store (cells_at store.store turns done k)) (place_at first turns k)
