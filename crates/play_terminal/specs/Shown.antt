-- What a terminal is shown of a text.
use Rattle.std.specs.Prelude.{◌≡◌, ℕ, Bool, true, List, [], ◌∷◌, ◌==◌, ◌&&◌, ◌||◌, nat_le, Option, Result, OnOk}
use Rattle.std.specs.Io.KnownBytes.{Appends}

-- a text of printing characters of ASCII and ends of lines
abbrev pub is_plain_byte : ℕ → Bool
is_plain_byte b = (b == 10) || (nat_le 32 b && nat_le b 126)

abbrev pub is_plain_text : List ℕ → Bool
is_plain_text [] = true
is_plain_text (b ∷ bs) = is_plain_byte b && is_plain_text bs

-- such a text is shown as it is
abbrev pub ShowsPlain : {E : Type 0} → Option (List ℕ) → Option (List ℕ) → List ℕ → Result ℕ E → Type 0
ShowsPlain held_before held_after text result =
    is_plain_text text ≡ true → OnOk result (Appends held_before held_after text)
