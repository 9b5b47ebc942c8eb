-- The definitions of a session, computed.
use Rattle.std.proofs.Common.{◌≡◌, ℕ, List, [], ◌∷◌, ◌++◌, Option, Some, None, true, false, refl}
use Rattle.std.specs.Prelude.{codes}
use Rattle.zcore.specs.declared.place.Place.TheVariants as places
use Rattle.zcore.specs.Turn.{StateOfPlay, Whole, at_rest}
use Rattle.session.specs.Asking.{last_status}
use Rattle.machine_picture.specs.Marks.{marked_after}
use Rattle.machine_picture.specs.Styles.{Styles}
use Rattle.session.specs.Showing.{marked_beside, nothing_shown, shown_from, shown_with}
use Rattle.session.specs.Shown.{Showing, Shown}
use Rattle.session.specs.Session.{Session}
use Rattle.session.specs.Stepped.{stepped_back, stepped_forward, with_turn, bounded, latest_text, latest_size}
use Rattle.session.specs.Times.{all_cells}

abbrev a : List ℕ
a = codes "a"

abbrev b : List ℕ
b = codes "b"

-- cells at all times: the first turn wrote 6 over 5, the second 8 over 7; the first of them is done

all_times : all_cells (6 ∷ 7 ∷ []) (((0, 5) ∷ []) ∷ ((1, 8) ∷ []) ∷ []) 1 ≡ (5 ∷ 7 ∷ []) ∷ (6 ∷ 7 ∷ [])
    ∷ (6 ∷ 8 ∷ []) ∷ []
unfolding all_cells
all_times = refl

-- what was shown of turns that draw this

abbrev drawn : List ℕ → Shown
drawn picture = record { drawing = picture; style = 0; marked = [] }

abbrev pictures : Showing
pictures = record { picture = true; styles = false; rows = None }

-- a session that keeps one turn

abbrev state : ℕ → StateOfPlay
state n = record { memory = []; frames = []; pending = None; program_counter = n; standard_state = at_rest; kept = [] }

abbrev at_start : Session
at_start = record {
  keep = Some 1;
  showing = record { picture = false; styles = false; rows = None };
  fuel = 10;
  loaded = None;
  static_base = 64;
  opening = codes ">";
  states = state 0 ∷ state 1 ∷ [];
  places = places.Waiting ∷ places.Waiting ∷ [];
  shown = drawn (codes "Hall") ∷ drawn (codes "Attic") ∷ [];
  texts = codes "1" ∷ [];
  lines = a ∷ [];
  sizes = 64 ∷ [];
  present = 1;
  given_up = [];
}

-- a turn back and forward, and no further

turn_back : stepped_back at_start ≡ record at_start { present = 0 }
turn_back = refl

no_turn_back : stepped_back (stepped_back at_start) ≡ stepped_back at_start
no_turn_back = refl

turn_forward : stepped_forward (stepped_back at_start) ≡ at_start
turn_forward = refl

no_turn_forward : stepped_forward at_start ≡ at_start
no_turn_forward = refl

-- a turn under a bound

abbrev second : Whole
second = record { state = state 2; place = places.Quit; text = codes "2" }

turn_bounded : bounded (with_turn b 128 second (drawn (codes "Cellar")) at_start) ≡ record at_start {
  states = state 1 ∷ state 2 ∷ [];
  places = places.Waiting ∷ places.Quit ∷ [];
  shown = drawn (codes "Attic") ∷ drawn (codes "Cellar") ∷ [];
  texts = codes "2" ∷ [];
  lines = b ∷ [];
  sizes = 128 ∷ [];
  given_up = codes "1";
}
turn_bounded = refl

latest : latest_text (bounded (with_turn b 128 second (drawn (codes "Cellar")) at_start)) ≡ codes "2"
latest = refl

latest_record : latest_size (bounded (with_turn b 128 second (drawn (codes "Cellar")) at_start)) ≡ 128
latest_record = refl

abbrev none_kept_yet : Session
none_kept_yet = record
    at_start {
      keep = Some 0;
      states = state 0 ∷ [];
      places = places.Waiting ∷ [];
      shown = drawn (codes "Hall") ∷ [];
      texts = [];
      lines = [];
      sizes = [];
      present = 0;
    }

turn_not_kept : bounded (with_turn b 128 second (drawn (codes "Cellar")) none_kept_yet)
    ≡ record none_kept_yet {
      states = state 2 ∷ [];
      places = places.Quit ∷ [];
      shown = drawn (codes "Cellar") ∷ [];
      given_up = codes "2";
    }
turn_not_kept = refl

latest_not_kept : latest_text (bounded (with_turn b 128 second (drawn (codes "Cellar")) none_kept_yet)) ≡ codes "2"
latest_not_kept = refl

-- in the profile nothing is drawn, by the opening and by each line

none_drawn : shown_with None pictures [] 0 (second ∷ second ∷ []) (a ∷ []) ≡ nothing_shown ∷ nothing_shown ∷ []
none_drawn = refl

-- what was drawn stays for the turns that follow if pictures are kept

stays : shown_from None pictures 0 (drawn (codes "Hall")) ((second, a) ∷ (second, b) ∷ [])
    ≡ drawn (codes "Hall") ∷ drawn (codes "Hall") ∷ drawn (codes "Hall") ∷ []
stays = refl

goes : shown_from None (record { picture = false; styles = false; rows = None }) 0 (drawn (codes "Hall"))
    ((second, a) ∷ (second, b) ∷ []) ≡ drawn (codes "Hall") ∷ nothing_shown ∷ nothing_shown ∷ []
goes = refl

-- a read has shown two rows of the upper window: they are in the text, but where a screen draws both of them

abbrev menu : Styles
menu = record { style = 0; each = 2 ∷ 0 ∷ 1 ∷ 0 ∷ 1 ∷ 0 ∷ []; part = record { from = 2; to = 6 } }

abbrev on_rows : Option ℕ → List ℕ
on_rows rows = marked_beside rows (codes "a\nb") (codes "x\na\nb\n") menu

whole : on_rows None ≡ 27 ∷ codes "[0;1mx" ++ 27 ∷ codes "[0m\n" ++ 27 ∷ codes "[0;7ma" ++ 27 ∷ codes "[0m\n"
    ++ 27 ∷ codes "[0;7mb" ++ 27 ∷ codes "[0m\n"
unfolding marked_after
whole = refl

cut_off : on_rows (Some 1) ≡ on_rows None
cut_off = refl

beside : on_rows (Some 2) ≡ 27 ∷ codes "[0;1mx" ++ 27 ∷ codes "[0m\n"
unfolding marked_after
beside = refl

-- where there is no status line, what was drawn on the way to the last state is the status text

last_drawn : last_status None (second ∷ second ∷ []) (drawn (codes "Hall") ∷ drawn (codes "Attic") ∷ []) ≡ codes "Attic"
last_drawn = refl
