-- The characters that ZSCII codes print (Z-Machine Standards Document 1.1, section 3.8).
use Rattle.std.specs.Prelude.{◌==◌, ◌-◌, ℕ, nat_le, if◌then◌else◌, List, [], ◌∷◌, slice_index_or}
use Rattle.std.specs.List.{flat_map}
use Rattle.zcore.specs.State.{State, Out, done, ◌>>=◌}
use Rattle.zcore_standard.specs.Unicode.{is_ascii, transcript_of, print_whole}

-- a question mark stands for what has no character
abbrev pub unknown : ℕ
unknown = 63

-- the Unicode character of a code, with these for the codes from 155 on (3.8.5)
abbrev pub extra_character : List ℕ → ℕ → ℕ
extra_character characters code =
    if nat_le 155 code then slice_index_or characters (code - 155) unknown else unknown

-- The characters that a code prints, each by its bytes in the transcript: 0 prints nothing, 9 (a tab) one space and 11
-- (the space between sentences) two, 13 a new line.
abbrev pub shown_by : List ℕ → ℕ → List (List ℕ)
shown_by characters code =
    if code == 0 then []
    else (if code == 9 then (32 ∷ []) ∷ []
    else (if code == 11 then (32 ∷ []) ∷ (32 ∷ []) ∷ []
    else (if code == 13 then (10 ∷ []) ∷ []
    else (if is_ascii code then (code ∷ []) ∷ []
    else transcript_of (extra_character characters code) ∷ []))))

-- One character after another is printed, whole, up to the limit of a turn's text.
unfoldable pub print_each : List (List ℕ) → State → Out (Unit {0})
print_each [] = done tt
print_each (bytes ∷ others) = do
  _ ← print_whole bytes
  print_each others

-- prints ZSCII codes, with these characters for those from 155 on
abbrev pub print_codes : List ℕ → List ℕ → State → Out (Unit {0})
print_codes characters codes = print_each (flat_map (shown_by characters) codes)
