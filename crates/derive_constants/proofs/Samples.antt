-- The definitions at worked examples.
use Rattle.std.proofs.Common.{◌≡◌, ℕ, [], ◌∷◌, Some, None, refl}
use Rattle.std.specs.Prelude.{codes}
use Rattle.syntax_lexer.specs.declared.token.Position.{Position}
use Rattle.syntax_lexer.specs.declared.token.Sign.{Sign}
use Rattle.syntax_lexer.specs.declared.token.Sign.TheVariants as s
use Rattle.syntax_lexer.specs.declared.token.Word.TheVariants as w
use Rattle.syntax_lexer.specs.Token.{Lexeme, name, number, text, reserved, sign, end}
use Rattle.derive_constants.specs.Values.{Known, nothing_known, value_in}
use Rattle.derive_constants.specs.Constants.{constants}

abbrev here : Position
here = record { offset = 0; line = 1 }

abbrev n : ℕ → Lexeme
n v = number v here

abbrev sg : Sign → Lexeme
sg x = sign x here

abbrev wide : Lexeme
wide = name (codes "WIDE") here

abbrev known : Known
known = record { names = codes "wide" ∷ []; numbers = 4 ∷ [] }

-- `WIDE * (2 + 1) - 5`
computed : value_in known
    (wide ∷ sg s.Star ∷ sg s.OpenParenthesis ∷ n 2 ∷ sg s.Plus ∷ n 1 ∷ sg s.CloseParenthesis ∷ sg s.Minus ∷ n 5 ∷ [])
    ≡ Some 7
computed = refl

-- `10 - 2 - 3`, from the left
from_the_left : value_in nothing_known (n 10 ∷ sg s.Minus ∷ n 2 ∷ sg s.Minus ∷ n 3 ∷ []) ≡ Some 5
from_the_left = refl

-- `-7 / 2` is -3
negative : value_in nothing_known (sg s.Minus ∷ n 7 ∷ sg s.Slash ∷ n 2 ∷ []) ≡ Some 65533
negative = refl

-- `2 3` is none, nor is what divides by 0, or uses a name that is not known
two_numbers : value_in nothing_known (n 2 ∷ n 3 ∷ []) ≡ None
two_numbers = refl

by_none : value_in nothing_known (n 2 ∷ sg s.Slash ∷ n 0 ∷ []) ≡ None
by_none = refl

unknown : value_in nothing_known (wide ∷ []) ≡ None
unknown = refl

-- `Constant WIDE 4; Array m --> WIDE * 2;`
array_of_eight : constants
    (reserved w.Constant here ∷ wide ∷ n 4 ∷ sg s.Semicolon ∷ reserved w.Array here ∷ name (codes "m") here
    ∷ sg s.LongArrow ∷ wide ∷ sg s.Star ∷ n 2 ∷ sg s.Semicolon ∷ end here ∷ [])
    ≡ reserved w.Constant here ∷ wide ∷ sg s.Assign ∷ n 4 ∷ sg s.Semicolon ∷ reserved w.Array here
    ∷ name (codes "m") here ∷ sg s.LongArrow ∷ n 8 ∷ sg s.Semicolon ∷ end here ∷ []
array_of_eight = refl

-- `Array b buffer 20; [ Main; ];`
buffer : constants
    (reserved w.Array here ∷ name (codes "b") here ∷ name (codes "buffer") here ∷ n 20 ∷ sg s.Semicolon
    ∷ sg s.OpenBracket ∷ name (codes "Main") here ∷ sg s.Semicolon ∷ sg s.CloseBracket ∷ sg s.Semicolon
    ∷ end here ∷ [])
    ≡ reserved w.Array here ∷ name (codes "b") here ∷ sg s.Arrow ∷ n 22 ∷ sg s.Semicolon
    ∷ sg s.OpenBracket ∷ name (codes "Main") here ∷ sg s.Semicolon ∷ name (codes "b") here ∷ sg s.LongArrow ∷ n 0
    ∷ sg s.Assign ∷ n 20 ∷ sg s.Semicolon ∷ sg s.CloseBracket ∷ sg s.Semicolon ∷ end here ∷ []
buffer = refl

-- `Array c -> "a^";`
characters : constants
    (reserved w.Array here ∷ name (codes "c") here ∷ sg s.Arrow ∷ text (codes "a^") here ∷ sg s.Semicolon ∷ end here
    ∷ [])
    ≡ reserved w.Array here ∷ name (codes "c") here ∷ sg s.Arrow ∷ n 97 ∷ n 13 ∷ sg s.Semicolon ∷ end here ∷ []
characters = refl

-- entries: `1 2 -2 (3 + 4)`
entries : constants
    (reserved w.Array here ∷ name (codes "d") here ∷ sg s.LongArrow ∷ n 1 ∷ n 2 ∷ sg s.Minus ∷ n 2
    ∷ sg s.OpenParenthesis ∷ n 3 ∷ sg s.Plus ∷ n 4 ∷ sg s.CloseParenthesis ∷ sg s.Semicolon ∷ end here ∷ [])
    ≡ reserved w.Array here ∷ name (codes "d") here ∷ sg s.LongArrow ∷ n 1 ∷ n 2 ∷ n 65534 ∷ n 7
    ∷ sg s.Semicolon ∷ end here ∷ []
entries = refl
