-- The definitions at worked examples.
use Rattle.std.proofs.Common.{◌≡◌, ℕ, List, [], ◌∷◌, ◌++◌, refl}
use Rattle.std.specs.Prelude.{codes}
use Rattle.derive_joined.specs.Joined.{joined}
use Rattle.derive_joined.specs.Origin.{origin}

abbrev quote : List ℕ
quote = 34 ∷ []

abbrev line_end : List ℕ
line_end = 10 ∷ []

-- a space for a line end and the blanks around it, and the line end after the text
two_lines : joined (codes "a " ++ quote ++ codes "one " ++ line_end ++ codes "  two" ++ quote ++ codes ";")
    ≡ codes "a " ++ quote ++ codes "one two" ++ quote ++ line_end ++ codes ";"
two_lines = refl

-- nothing after `^`, and one space for two line ends
after_caret : joined (quote ++ codes "a^" ++ line_end ++ codes " b" ++ line_end ++ line_end ++ codes "c" ++ quote)
    ≡ quote ++ codes "a^b c" ++ quote ++ line_end ++ line_end ++ line_end
after_caret = refl

-- blanks within a line stay
blanks_stay : joined (quote ++ codes "a  b " ++ quote) ≡ quote ++ codes "a  b " ++ quote
blanks_stay = refl

-- a quote that is a character, or in a comment, begins no text
no_text : joined (codes "'" ++ quote ++ codes "' ! " ++ quote ++ line_end ++ codes "x")
    ≡ codes "'" ++ quote ++ codes "' ! " ++ quote ++ line_end ++ codes "x"
no_text = refl

directive : joined (codes "#Ifdef A; #constants o.#class") ≡ codes " Ifdef A; #constants o.#class"
directive = refl

-- the byte `;` of the first example
origin_after_a_text : origin (quote ++ codes "a" ++ line_end ++ codes "b" ++ quote ++ codes ";") 6 ≡ 5
origin_after_a_text = refl
