-- The definitions at worked examples.
use Rattle.std.proofs.Common.{◌≡◌, ℕ, List, [], ◌∷◌, ◌++◌, refl}
use Rattle.std.specs.Prelude.{codes, true, false}
use Rattle.std.specs.Fmt.{digits}
use Rattle.syntax_lexer.specs.declared.token.Position.{Position}
use Rattle.syntax_lexer.specs.declared.token.Sign.TheVariants as s
use Rattle.syntax_lexer.specs.declared.token.Word.TheVariants as w
use Rattle.syntax_lexer.specs.Token.{Lexeme, name, number, text, character, dictionary_word, reserved, sign, end}
use Rattle.derive_tokens.specs.Tokens.{is_sign, is_named, numbered}
use Rattle.derive_tokens.specs.Own.{is_own}
use Rattle.derive_tokens.specs.Spelled.{spelling}
use Rattle.derive_tokens.specs.Written.{written}

abbrev on : ℕ → Position
on l = record { offset = 0; line = l }

-- `Constant W = 4;` on line 1, and `[ Main; ];` on line 3, at whose end the source ends
abbrev example : List Lexeme
example =
    reserved w.Constant (on 1) ∷ name (codes "W") (on 1) ∷ sign s.Assign (on 1) ∷ number 4 (on 1)
    ∷ sign s.Semicolon (on 1) ∷ sign s.OpenBracket (on 3) ∷ name (codes "Main") (on 3) ∷ sign s.Semicolon (on 3)
    ∷ sign s.CloseBracket (on 3) ∷ sign s.Semicolon (on 3) ∷ end (on 3) ∷ []

each_on_its_line : written example ≡ codes " constant W = 4 ;" ++ 10 ∷ 10 ∷ codes "[ Main ; ] ; "
unfolding digits
each_on_its_line = refl

-- a token from an earlier line is written beside the one before it
no_line_back : written (name (codes "a") (on 2) ∷ name (codes "b") (on 1) ∷ name (codes "c") (on 3) ∷ [])
    ≡ 10 ∷ codes "a b" ++ 10 ∷ codes "c"
no_line_back = refl

greatest_number : spelling (number 65535 (on 1)) ≡ codes "65535"
unfolding digits
greatest_number = refl

word_of_one : spelling (dictionary_word (codes "x") (on 1)) ≡ codes "'x//'"
word_of_one = refl

word_of_two : spelling (dictionary_word (codes "go") (on 1)) ≡ codes "'go'"
word_of_two = refl

text_in_quotes : spelling (text (codes "a~b") (on 1)) ≡ 34 ∷ codes "a~b" ++ 34 ∷ []
text_in_quotes = refl

made_name : numbered (codes "x__r") 12 ≡ codes "x__r12"
unfolding digits
made_name = refl

this_sign : is_sign s.Arrow (sign s.Arrow (on 1)) ≡ true
this_sign = refl

another_sign : is_sign s.Arrow (sign s.LongArrow (on 1)) ≡ false
another_sign = refl

in_capitals : is_named (codes "self") (name (codes "Self") (on 1)) ≡ true
in_capitals = refl

own_name : is_own (name (codes "X__call") (on 1)) ≡ true
own_name = refl

no_own_name : is_own (name (codes "x_") (on 1)) ≡ false
no_own_name = refl
