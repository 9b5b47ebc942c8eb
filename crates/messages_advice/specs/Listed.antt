-- The kinds of tokens with which a program begins behind some tokens.
use Rattle.std.specs.Prelude.{◌≡◌, ◌⊎◌, Bool, true, false, List, [], ◌∷◌, ◌++◌, Option, Some, None}
use Rattle.std.specs.List.{Contains}
use Rattle.std.specs.Global.{Vec}
use Rattle.syntax_lexer.specs.Token.{Lexeme}
use Rattle.syntax.specs.Tree.{ProgramTree}
use Rattle.syntax.specs.Grammar.{IsProgram}
use Rattle.syntax.specs.Places.{Begins}
use Rattle.messages_advice.specs.declared.kinds.TokenKind.{TokenKind}
use Rattle.messages_advice.specs.declared.kinds.TokenKind.TheVariants as k
use Rattle.messages_advice.specs.Kinds.{kind_of, some_token}

-- At the first token with which no program begins, some program begins with the tokens before it and one more exactly
-- where the kind of that one is listed.
pub record AreExpected (ts : List Lexeme) (kinds : List TokenKind) : Type 0 where
  pub front : List Lexeme
  pub token : Lexeme
  pub after : List Lexeme
  pub is : ts ≡ front ++ token ∷ after
  pub fits : Begins front
  pub does_not : Begins (front ++ token ∷ []) → ⊥
  pub listed : (t : Lexeme) → Contains kinds (kind_of t) → Begins (front ++ t ∷ [])
  pub only : (t : Lexeme) → Begins (front ++ t ∷ []) → Contains kinds (kind_of t)

-- such kinds, or none where the tokens are a program
abbrev pub AnswersExpected : List Lexeme → Option (Vec TokenKind) → Type 0
AnswersExpected ts None = (p : ProgramTree) × IsProgram ts p
AnswersExpected ts (Some kinds) = AreExpected ts kinds.items

-- some program begins with those tokens and any of that kind behind them; none does with one

abbrev pub Fits : List Lexeme → TokenKind → Type 0
Fits front x = (t : Lexeme) → kind_of t ≡ x → Begins (front ++ t ∷ [])

abbrev pub Misfits : List Lexeme → TokenKind → Type 0
Misfits front x = (t : Lexeme) → kind_of t ≡ x → Begins (front ++ t ∷ []) → ⊥

abbrev pub AnswersFits : List Lexeme → TokenKind → Bool → Type 0
AnswersFits front x true = Fits front x
AnswersFits front x false = Misfits front x

-- Words of proofs

-- the tokens by which that is found
abbrev pub end_behind : TokenKind → List Lexeme
end_behind k.End = []
end_behind _ = some_token k.End ∷ []

abbrev pub trial_of : List Lexeme → TokenKind → List Lexeme
trial_of front x = front ++ some_token x ∷ end_behind x

-- of the kinds that were tried, those that fit were found, and no other
pub record AreTried (front : List Lexeme) (tried found : List TokenKind) : Type 0 where
  pub sound : (x : TokenKind) → Contains found x → Fits front x
  pub full : (x : TokenKind) → Contains tried x → Contains found x ⊎ Misfits front x
