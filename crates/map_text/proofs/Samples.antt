-- What is read of some texts.
use Rattle.std.proofs.Common.{◌≡◌, ℕ, List, [], ◌∷◌, ◌++◌, codes, refl, Result, Ok, Err}
use Rattle.map_text.specs.declared.fault.MapFault.{MapFault}
use Rattle.map_text.specs.declared.fault.MapFault.TheVariants.{Line, NoMap, OtherStory}
use Rattle.map_text.specs.Text.{RowOf, line_feed}
use Rattle.map_text.specs.Reading.{first_line, map_in}

abbrev row : ℕ → List ℕ → ℕ → RowOf
row a name l = record { address = a; routine = name; line = l }

abbrev lines : List (List ℕ) → List ℕ
lines [] = []
lines (l ∷ ls) = l ++ line_feed ∷ lines ls

abbrev story : List ℕ
story = first_line ++ codes "story 97F0 7E1CC07C6B9C29F1" ++ line_feed ∷ []

abbrev reads : List (List ℕ) → Result (List RowOf) MapFault
reads ls = map_in story (story ++ lines ls)

two_rows : reads (codes "00370 Take 4" ∷ codes "0037D Take 6" ∷ [])
    ≡ Ok (row 0x370 (codes "Take") 4 ∷ row 0x37D (codes "Take") 6 ∷ [])
two_rows = refl

no_rows : reads [] ≡ Ok []
no_rows = refl

-- numbers that are written otherwise, and names of any bytes
other_rows : reads (codes "00010 A +12" ∷ codes "00010  007" ∷ [])
    ≡ Ok (row 16 (codes "A") 12 ∷ row 16 [] 7 ∷ [])
other_rows = refl

lower_address : reads (codes "0037D Take 6" ∷ codes "00370 Take 4" ∷ []) ≡ Err (Line 4)
lower_address = refl

small_letter : reads (codes "0037d Take 6" ∷ []) ≡ Err (Line 3)
small_letter = refl

four_digits : reads (codes "037D Take 6" ∷ []) ≡ Err (Line 3)
four_digits = refl

no_line : reads (codes "0037D Take 6" ∷ codes "0037D Take" ∷ []) ≡ Err (Line 4)
no_line = refl

four_parts : reads (codes "0037D Take 6 7" ∷ []) ≡ Err (Line 3)
four_parts = refl

large_number : reads (codes "0037D Take 18446744073709551616" ∷ []) ≡ Err (Line 3)
large_number = refl

empty_line : reads (codes "0037D Take 6" ∷ [] ∷ []) ≡ Err (Line 4)
empty_line = refl

-- the last line feed is missing
open_line : map_in story (story ++ codes "0037D Take 6") ≡ Err (Line 3)
open_line = refl

other_heading : map_in story (first_line ++ codes "story 97F1 7E1CC07C6B9C29F1" ++ line_feed ∷ []) ≡ Err OtherStory
other_heading = refl

other_text : map_in story (codes "inform map 2" ++ line_feed ∷ []) ≡ Err NoMap
other_text = refl
