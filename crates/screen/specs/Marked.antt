-- A text with marks of styles: the text itself, and the style of each of its bytes. What is shown is marked anew, so
-- that each part of the screen begins and ends plain.
use Rattle.std.specs.Prelude.{ℕ, ◌==◌, Bool, false, true, not, bit_or, if◌then◌else◌, List, [], ◌∷◌}
use Rattle.machine_picture.specs.Marks.{escape, without_marks}

abbrev pub unmarked : List ℕ → List ℕ
unmarked = without_marks false

-- what a byte in a mark adds to its style: `7` reverse, `1` bold, `3` italic, and the `5` of `50` fixed pitch
abbrev pub style_of : ℕ → ℕ
style_of byte =
    if byte == 55 then 1 else (if byte == 49 then 2 else (if byte == 51 then 4 else (if byte == 53 then 8 else 0)))

-- the style of each byte that is in no mark, from a style on; a mark begins plain
unfoldable pub styles_from : Bool → ℕ → List ℕ → List ℕ
styles_from is_in_mark style [] = []
styles_from false style (byte ∷ bytes) =
    if byte == escape then styles_from true 0 bytes else style ∷ styles_from false style bytes
styles_from true style (byte ∷ bytes) = styles_from (not (byte == 109)) (bit_or style (style_of byte)) bytes

abbrev pub styles_in : List ℕ → List ℕ
styles_in = styles_from false 0
