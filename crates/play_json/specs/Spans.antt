-- Where a text is reverse, bold, italic or of fixed pitch, read from the text with marks: spans of its characters, each
-- of one style.
use Rattle.std.specs.Prelude.{ℕ, ◌+◌, ◌-◌, ◌==◌, ◌&&◌, nat_le, nat_lt, Bool, true, false, not, if◌then◌else◌}
use Rattle.std.specs.Prelude.{List, [], ◌∷◌, ◌++◌, codes}
use Rattle.serde_json.specs.Data.{Data, array, no_members, number, object, put, string, unsigned}
use Rattle.serde_json.specs.View.{items_of}
use Rattle.play_json.specs.declared.spans.Style.{Style}

-- how many characters a byte begins: none if it goes on with one, in UTF-8
abbrev pub begun_by : ℕ → ℕ
begun_by byte = if nat_le 0x80 byte && nat_lt byte 0xC0 then 0 else 1

abbrev pub plain : Style
plain = record { reverse = false; bold = false; italic = false; fixed = false }

-- A mark has 7 for reverse, 1 for bold, 3 for italic, and 50 for fixed pitch.
abbrev pub with_part : ℕ → Style → Style
with_part byte style =
    if byte == 0x37 then record style { reverse = true }
    else (if byte == 0x31 then record style { bold = true }
    else (if byte == 0x33 then record style { italic = true }
    else (if byte == 0x35 then record style { fixed = true }
    else style)))

-- one span: from this character on, so many
abbrev pub span_data : List ℕ → ℕ → ℕ → Data
span_data name start count = object
    (put (codes "style") (string name)
    (put (codes "length") (number (unsigned count))
    (put (codes "start") (number (unsigned start)) no_members)))

abbrev pub span_if : Bool → List ℕ → ℕ → ℕ → List Data
span_if is_so name start count = if is_so then span_data name start count ∷ [] else []

-- the spans of so many characters of one style
abbrev pub spans_in : Style → ℕ → ℕ → List Data
spans_in style start count =
    if count == 0 then []
    else span_if style.reverse (codes "reverse") start count ++ (span_if style.bold (codes "bold") start count
    ++ (span_if style.italic (codes "italic") start count ++ span_if style.fixed (codes "fixed") start count))

-- Those of a text with marks, where the characters from `start` up to `at` have this style, and the next byte is in a
-- mark or not. A mark goes from ESC (27) to `m` (109).
abbrev pub spans_from : Style → ℕ → ℕ → Bool → List ℕ → List Data
spans_from style start at is_in_mark [] = spans_in style start (at - start)
spans_from style start at true (byte ∷ bytes) =
    spans_from (with_part byte style) start at (not (byte == 109)) bytes
spans_from style start at false (byte ∷ bytes) =
    if byte == 27 then spans_in style start (at - start) ++ spans_from plain at at true bytes
    else spans_from style start (at + begun_by byte) false bytes

abbrev pub spans_data : List ℕ → Data
spans_data marked = array (items_of (spans_from plain 0 0 false marked))
