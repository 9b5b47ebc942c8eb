-- Lines of both modes, and what they add to the transcript, computed.
use Rattle.std.proofs.Common.{◌≡◌, ℕ, true, false, None, Some, List, [], ◌∷◌, ◌++◌, codes, refl}
use lib.Utf8.{encode}
use Rattle.std.specs.Prelude.{replicate}
use Rattle.std.specs.Str.{chars, is_utf8}
use Rattle.zcore_standard.specs.Loaded.{Loaded}
use Rattle.zcore_versions.specs.Versions.{Story, versioned}
use Rattle.zcore_standard.specs.Unicode.{default_characters}
use Rattle.zcore.specs.Turn.{Whole, at_rest}
use Rattle.zcore.specs.declared.place.Place.TheVariants.{Waiting, Quit}
use Rattle.session.specs.Asking.{asks_with, told_at}
use Rattle.session.specs.Game.{Game, answer, asks_on, game_of}
use Rattle.session.specs.Modes.{is_typable_with}
use Rattle.session.specs.Scripts.{last_is_on, last_script}
use Rattle.session.specs.declared.mode.Mode.{Mode}
use Rattle.session.specs.declared.mode.Mode.TheVariants.{Profile}
use Rattle.session_lines.specs.Standing.{Standing}
use Rattle.session_lines.specs.Transcript.{answer_of, note}

-- in the profile a line is of ASCII

abbrev in_mode : Mode → Game
in_mode mode = game_of mode [] 0 None

abbrev e_acute : List ℕ
e_acute = 0xC3 ∷ 0xA9 ∷ []

line_refused : (s : Standing) → answer (in_mode Profile) s (record { line = e_acute; answer = []; refused = true })
    ≡ record { reply = note (codes "[Line refused.]"); standing = s }
unfolding answer_of
line_refused s = refl

-- by the whole Standard a line is UTF-8, of characters that the story has

abbrev loaded : Loaded
loaded = record {
  dynamic = [];
  dice = record { window = 0; random = 0; interval = 0; counter = 0 };
  is_sum_right = true;
  characters = default_characters;
  own_alphabets = None;
  saves = None;
  has_transcript = false;
}

abbrev story : Story
story = versioned loaded (record { number = 5; routine_offset = 0; text_offset = 0 })

accent_typed : is_typable_with (Some story) e_acute ≡ true
unfolding is_utf8 chars encode
accent_typed = refl

half_refused : is_typable_with (Some story) (0xC3 ∷ []) ≡ false
unfolding is_utf8 chars
half_refused = refl

too_long_refused : is_typable_with (Some story) (replicate 1001 32) ≡ false
too_long_refused = refl

command_with_a_space : (s : Standing)
    → (answer (in_mode Profile) s (record { line = codes "/undo\t"; answer = []; refused = false })).reply
    ≡ note (codes "[Line refused.]")
unfolding answer_of
command_with_a_space s = refl

-- `/status` asks, to the byte, but in the profile it is a line for the story

asks_by_standard : asks_with (Some story) (codes "/status") ≡ true
asks_by_standard = refl

no_command : asks_with (Some story) (codes "/status ") ≡ false
no_command = refl

line_in_profile : asks_on (in_mode Profile) (codes "/status") ≡ false
line_in_profile = refl

no_line : told_at Waiting [] ≡ note (codes "[No status line.]")
no_line = refl

over : told_at Quit (codes " Garden") ≡ note (codes "[The story is over.]")
over = refl

-- The transcript is on where the player writes one and the story has turned bit 0 of Flags 2 on. That is asked of the last
-- state.

abbrev at : ℕ → Whole
at flags = record {
  state = record {
    memory = replicate 17 0 ++ flags ∷ [];
    frames = [];
    pending = None;
    program_counter = 0;
    standard_state = at_rest;
    kept = [];
  };
  place = Waiting;
  text = [];
}

abbrev scripted_story : Story
scripted_story = versioned (record loaded { has_transcript = true })
    (record { number = 5; routine_offset = 0; text_offset = 0 })

turned_on : last_is_on (Some scripted_story) (at 0 ∷ at 3 ∷ []) ≡ true
turned_on = refl

turned_off : last_is_on (Some scripted_story) (at 3 ∷ at 2 ∷ []) ≡ false
turned_off = refl

no_file : last_is_on (Some story) (at 3 ∷ []) ≡ false
no_file = refl

in_profile : last_is_on None (at 3 ∷ []) ≡ false
in_profile = refl

-- without an earlier state no line is given
no_turn : last_script (Some scripted_story) 100 (codes "look") [] ≡ []
no_turn = refl
