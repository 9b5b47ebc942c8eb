-- What goes to the transcript, computed.
use Rattle.std.proofs.Common.{◌≡◌, ℕ, List, [], ◌∷◌, ◌++◌, replicate, Bool, true, false, None, refl}
use Rattle.std.specs.Prelude.{codes}
use Rattle.zcore.specs.declared.place.Place.TheVariants.{Waiting, Quit}
use Rattle.zcore.specs.State.{Pending, State}
use Rattle.zcore.specs.Turn.{at_rest, first_state}
use Rattle.zcore_standard.specs.Loaded.{Loaded, seeded}
use Rattle.zcore_standard.specs.Place.{Here, plain}
use Rattle.machine_standard.specs.Script.{added, last_added, typed}

abbrev loaded : Bool → Loaded
loaded has_transcript = record {
  dynamic = [];
  dice = seeded 0;
  is_sum_right = false;
  characters = [];
  own_alphabets = None;
  saves = None;
  has_transcript = has_transcript;
}

-- with this second byte of Flags 2
abbrev memory : ℕ → List ℕ
memory low = replicate 17 0 ++ low ∷ replicate 46 0

abbrev state : ℕ → List ℕ → State
state low text = record (first_state (memory low)) { text = text }

abbrev lower : Here
lower = plain at_rest [] (record { program_counter = 64; fuel = 9 })

abbrev upper : Here
upper = plain (record at_rest { window = 1 }) [] (record { program_counter = 64; fuel = 9 })

abbrev in_stream : Here
in_stream = record lower { streams = record { table = 64; from = 0 } ∷ [] }

printed : added (loaded true) lower (state 3 (codes "In ")) (codes "In and out") ≡ codes "and out"
printed = refl

turned_off : added (loaded true) lower (state 2 (codes "In ")) (codes "In and out") ≡ []
turned_off = refl

not_written : added (loaded false) lower (state 3 (codes "In ")) (codes "In and out") ≡ []
not_written = refl

in_the_upper_window : added (loaded true) upper (state 3 []) (codes "Score: 10") ≡ []
in_the_upper_window = refl

to_memory : added (loaded true) in_stream (state 3 []) (codes "lamp") ≡ []
to_memory = refl

-- a text that was cut
cut : added (loaded true) lower (state 3 (codes "In and out")) (codes "In") ≡ []
cut = refl

prompt : last_added (loaded true) Waiting lower (state 3 []) (codes "Name of the saved game: ") ≡ []
prompt = refl

last_words : last_added (loaded true) Quit lower (state 3 (codes "a")) (codes "ab") ≡ codes "b"
last_words = refl

-- a text buffer, or 0 for a key
abbrev waiting : ℕ → Pending
waiting text = record { text_buffer = text; parse_buffer = 0; result = None; return_address = 70 }

line : typed (loaded true) (waiting 64) (codes "Take IT") (memory 3) 0 ≡ codes "Take IT" ++ 10 ∷ []
line = refl

line_above : typed (loaded true) (waiting 64) (codes "Take IT") (memory 3) 1 ≡ []
line_above = refl

key : typed (loaded true) (waiting 0) (codes "y") (memory 3) 0 ≡ []
key = refl

line_before : typed (loaded true) (waiting 64) (codes "script") (memory 2) 0 ≡ []
line_before = refl
