-- The definition at worked examples.
use Rattle.std.proofs.Common.{◌≡◌, ℕ, List, [], ◌∷◌, ◌++◌, Ok, Err, refl}
use Rattle.std.specs.Prelude.{codes}
use Rattle.syntax_lexer.specs.declared.token.Position.{Position}
use Rattle.syntax_lexer.specs.declared.token.Sign.TheVariants as s
use Rattle.syntax_lexer.specs.declared.token.Word.TheVariants as w
use Rattle.syntax_lexer.specs.FaultNumbers.{not_in_grammar}
use Rattle.syntax_lexer.specs.Token.{Lexeme, name, number, reserved, sign, end}
use Rattle.derive_tokens.specs.Tokens.{refused}
use Rattle.derive_branches.specs.Branches.{branched}

abbrev at : ℕ → Position
at n = record { offset = n; line = 1 }

abbrev here : Position
here = at 0

abbrev n : ℕ → Lexeme
n v = number v here

abbrev semicolon : Lexeme
semicolon = sign s.Semicolon here

abbrev word : List ℕ → Lexeme
word bytes = name bytes here

-- `Constant name value;`
abbrev constant : List ℕ → ℕ → List Lexeme
constant bytes v = reserved w.Constant here ∷ word bytes ∷ n v ∷ semicolon ∷ []

abbrev ifdef : List ℕ → List Lexeme
ifdef bytes = word (codes "Ifdef") ∷ word bytes ∷ semicolon ∷ []

abbrev ifnot : List Lexeme
ifnot = word (codes "Ifnot") ∷ semicolon ∷ []

abbrev endif : List Lexeme
endif = word (codes "Endif") ∷ semicolon ∷ []

abbrev last : List Lexeme
last = end (at 99) ∷ []

-- `Constant a 1; Ifdef A; Constant b 2; Ifnot; Constant c 3; Endif;`
taken : branched
    (constant (codes "a") 1 ++ ifdef (codes "A") ++ constant (codes "b") 2 ++ ifnot ++ constant (codes "c") 3 ++ endif
    ++ last)
    ≡ Ok (constant (codes "a") 1 ++ constant (codes "b") 2 ++ last)
taken = refl

-- a name that is defined later
later : branched
    (ifdef (codes "c") ++ constant (codes "b") 2 ++ ifnot ++ constant (codes "c") 3 ++ endif ++ last)
    ≡ Ok (constant (codes "c") 3 ++ last)
later = refl

-- in what is left out, an `Ifnot` of an inner branch turns nothing
nested : branched
    (ifdef (codes "a") ++ ifdef (codes "b") ++ ifnot ++ constant (codes "c") 3 ++ endif ++ endif
    ++ constant (codes "d") 4 ++ last)
    ≡ Ok (constant (codes "d") 4 ++ last)
nested = refl

-- `Constant a 1; Iftrue a + 1 == wordsize; Constant b 2; Endif;`
computed : branched
    (constant (codes "a") 1 ++ word (codes "Iftrue") ∷ word (codes "a") ∷ sign s.Plus here ∷ n 1 ∷ sign s.Equal here
    ∷ word (codes "WORDSIZE") ∷ semicolon ∷ constant (codes "b") 2 ++ endif ++ last)
    ≡ Ok (constant (codes "a") 1 ++ constant (codes "b") 2 ++ last)
computed = refl

-- `Global a = WORDSIZE;`
word_size : branched
    (reserved w.Global here ∷ word (codes "a") ∷ sign s.Assign here ∷ word (codes "WORDSIZE") ∷ semicolon ∷ last)
    ≡ Ok (reserved w.Global here ∷ word (codes "a") ∷ sign s.Assign here ∷ n 2 ∷ semicolon ∷ last)
word_size = refl

-- `Default a 1; Default a 2;`
defaults : branched
    (reserved w.Default here ∷ word (codes "a") ∷ n 1 ∷ semicolon ∷ reserved w.Default here ∷ word (codes "A") ∷ n 2
    ∷ semicolon ∷ last)
    ≡ Ok (constant (codes "a") 1 ++ last)
defaults = refl

-- `Release 3; Global a;`
dropped : branched
    (word (codes "Release") ∷ n 3 ∷ semicolon ∷ reserved w.Global here ∷ word (codes "a") ∷ semicolon ∷ last)
    ≡ Ok (reserved w.Global here ∷ word (codes "a") ∷ semicolon ∷ last)
dropped = refl

-- `[ Main; switch (x) { default: } ];` is as it was
abbrev routine : List Lexeme
routine =
    sign s.OpenBracket here ∷ word (codes "Main") ∷ semicolon ∷ reserved w.Switch here ∷ sign s.OpenParenthesis here
    ∷ word (codes "x") ∷ sign s.CloseParenthesis here ∷ sign s.OpenBrace here ∷ reserved w.Default here
    ∷ sign s.Colon here ∷ sign s.CloseBrace here ∷ sign s.CloseBracket here ∷ semicolon ∷ last

unchanged : branched routine ≡ Ok routine
unchanged = refl

-- a second `Ifnot`, an `Endif` of nothing, and the end in a branch
second : branched
    (ifdef (codes "a") ++ ifnot ++ name (codes "Ifnot") (at 7) ∷ semicolon ∷ endif ++ last)
    ≡ Err (refused not_in_grammar (at 7))
second = refl

of_nothing : branched (endif ++ last) ≡ Err (refused not_in_grammar here)
of_nothing = refl

open_at_the_end : branched (ifdef (codes "self") ++ constant (codes "b") 2 ++ last) ≡ Err (refused not_in_grammar (at 99))
open_at_the_end = refl

-- `Iftrue lost;`
unknown : branched (word (codes "Iftrue") ∷ name (codes "lost") (at 8) ∷ semicolon ∷ endif ++ last)
    ≡ Err (refused not_in_grammar (at 8))
unknown = refl
