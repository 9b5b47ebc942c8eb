-- The machine at worked examples: how many tokens are left from the first on with which no program begins.
use Rattle.std.proofs.Common.{◌≡◌, ℕ, false, List, [], ◌∷◌, ◌++◌, Option, Some, None, refl}
use Rattle.syntax_lexer.specs.declared.token.Sign.{Sign}
use Rattle.syntax_lexer.specs.declared.token.Sign.TheVariants as s
use Rattle.syntax_lexer.specs.declared.token.Word.{Word}
use Rattle.syntax_lexer.specs.declared.token.Word.TheVariants as w
use Rattle.syntax_lexer.specs.Token.{Lexeme, name, number, text, reserved, sign, end}
use Rattle.syntax.proofs.Frames.{less}
use Rattle.syntax.proofs.Machine.{shift, accepts, stop, file}
use Rattle.syntax.proofs.StackWords.{anywhere}

abbrev x : Lexeme
x = name [] anywhere

abbrev one : Lexeme
one = number 1 anywhere

abbrev quoted : Lexeme
quoted = text [] anywhere

abbrev last : Lexeme
last = end anywhere

abbrev sg : Sign → Lexeme
sg s = sign s anywhere

abbrev wd : Word → Lexeme
wd w = reserved w anywhere

abbrev left : List Lexeme → Option ℕ
left ts = stop false file ts

-- a routine of these statements
abbrev routine : List Lexeme → List Lexeme
routine ts = sg s.OpenBracket ∷ x ∷ sg s.Semicolon ∷ (ts ++ sg s.CloseBracket ∷ sg s.Semicolon ∷ last ∷ [])

nothing : left (last ∷ []) ≡ None
unfolding stop shift accepts
nothing = refl

-- x = 1;
assignment : left (routine (x ∷ sg s.Assign ∷ one ∷ sg s.Semicolon ∷ [])) ≡ None
unfolding stop shift accepts
assignment = refl

-- 1 + 1; has no effect: from its `;` on, four tokens are left
no_effect : left (routine (one ∷ sg s.Plus ∷ one ∷ sg s.Semicolon ∷ [])) ≡ Some 4
unfolding stop shift accepts
no_effect = refl

-- (x()); has the effect of what stands in the parentheses, and (x); none
called : left
    (routine
    (sg s.OpenParenthesis ∷ x ∷ sg s.OpenParenthesis ∷ sg s.CloseParenthesis ∷ sg s.CloseParenthesis ∷ sg s.Semicolon
    ∷ [])) ≡ None
unfolding stop shift accepts
called = refl

named : left (routine (sg s.OpenParenthesis ∷ x ∷ sg s.CloseParenthesis ∷ sg s.Semicolon ∷ [])) ≡ Some 4
unfolding stop shift accepts
named = refl

-- x->1 = x->1->1: the second arrow
entries : left
    (routine
    (x ∷ sg s.Arrow ∷ one ∷ sg s.Assign ∷ x ∷ sg s.Arrow ∷ one ∷ sg s.Arrow ∷ one ∷ sg s.Semicolon ∷ [])) ≡ Some 6
unfolding stop shift accepts less
entries = refl

-- print (char) 1, (1), "": a word in parentheses, or an expression
items : left
    (routine
    (wd w.Print ∷ sg s.OpenParenthesis ∷ wd w.Char ∷ sg s.CloseParenthesis ∷ one ∷ sg s.Comma ∷ sg s.OpenParenthesis
    ∷ one ∷ sg s.CloseParenthesis ∷ sg s.Comma ∷ quoted ∷ sg s.Semicolon ∷ [])) ≡ None
unfolding stop shift accepts less
items = refl

abbrev switch : List Lexeme → List Lexeme
switch ts = routine
    (wd w.Switch ∷ sg s.OpenParenthesis ∷ x ∷ sg s.CloseParenthesis ∷ sg s.OpenBrace ∷ (ts ++ sg s.CloseBrace ∷ []))

-- 1: x = 1; 1 to 1, x: -1: default: ;
cases : left
    (switch
    (one ∷ sg s.Colon ∷ x ∷ sg s.Assign ∷ one ∷ sg s.Semicolon ∷ one ∷ wd w.To ∷ one ∷ sg s.Comma ∷ x ∷ sg s.Colon
    ∷ sg s.Minus ∷ one ∷ sg s.Colon ∷ wd w.Default ∷ sg s.Colon ∷ sg s.Semicolon ∷ [])) ≡ None
unfolding stop shift accepts less
cases = refl

-- 1: -1; the value may begin a case or an expression, the `;` ends neither
minus : left (switch (one ∷ sg s.Colon ∷ sg s.Minus ∷ one ∷ sg s.Semicolon ∷ [])) ≡ Some 5
unfolding stop shift accepts less
minus = refl

-- object -> x "" with x 1, x x has x;
object : left
    (wd w.Object ∷ sg s.Arrow ∷ x ∷ quoted ∷ wd w.With ∷ x ∷ one ∷ sg s.Comma ∷ x ∷ x ∷ wd w.Has ∷ x ∷ sg s.Semicolon
    ∷ last ∷ []) ≡ None
unfolding stop shift accepts
object = refl

-- object x, ; after the comma
comma : left (wd w.Object ∷ x ∷ sg s.Comma ∷ sg s.Semicolon ∷ last ∷ []) ≡ Some 2
unfolding stop shift accepts
comma = refl

-- nothing comes after the end
after_end : left (last ∷ x ∷ []) ≡ Some 1
unfolding stop shift accepts
after_end = refl
