-- Where tokens leave the grammar of programs, and where they stand too deep.
use Rattle.std.specs.Prelude.{◌≡◌, ◌<◌, ◌≤◌, ℕ, suc, List, [], ◌∷◌, ◌++◌, length, Option, Some, None}
use Rattle.syntax_lexer.specs.declared.token.Position.{Position}
use Rattle.syntax_lexer.specs.Token.{Lexeme, position_of}
use Rattle.syntax.specs.Tree.{ProgramTree}
use Rattle.syntax.specs.Grammar.{IsProgram}
use Rattle.syntax.specs.Nesting.{DeepEntries, DeepProgram}

-- some program begins with these tokens, whatever its nesting and its names
abbrev pub Begins : List Lexeme → Type 0
Begins front = (back : List Lexeme) × (p : ProgramTree) × IsProgram (front ++ back) p

-- of the position of the first token with which no program begins, P holds; and no token stands more than that many
-- nestings deep, as far as they can be read
pub record IsFirstUnfit (most : ℕ) (ts : List Lexeme) (P : Position → Type 0) : Type 0 where
  pub front : List Lexeme
  pub token : Lexeme
  pub after : List Lexeme
  pub is : ts ≡ front ++ token ∷ after
  pub fits : Begins front
  pub does_not : Begins (front ++ token ∷ []) → ⊥
  pub none_deeper : (n : ℕ) → DeepProgram n ts → n ≤ most
  pub stands : P (position_of token)

-- of the position of the first token that stands more than that many nestings deep, P holds
pub record IsFirstDeep (most : ℕ) (ts : List Lexeme) (P : Position → Type 0) : Type 0 where
  pub front : List Lexeme
  pub token : Lexeme
  pub after : List Lexeme
  pub is : ts ≡ front ++ token ∷ after
  pub too_deep : DeepEntries (suc most) ts (token ∷ after)
  -- what stands before it stands no deeper
  pub first : (n : ℕ) (u : List Lexeme) → DeepEntries n ts u → length (token ∷ after) < length u → n ≤ most
  pub stands : P (position_of token)

-- some program begins with so many tokens, and none with one more
pub record IsUnfitAfter (ts : List Lexeme) (count : ℕ) : Type 0 where
  pub front : List Lexeme
  pub token : Lexeme
  pub after : List Lexeme
  pub is : ts ≡ front ++ token ∷ after
  pub counts : length front ≡ count
  pub fits : Begins front
  pub does_not : Begins (front ++ token ∷ []) → ⊥

-- the number of the first token with which no program begins; none, where the tokens are a program
abbrev pub AnswersUnfit : List Lexeme → Option ℕ → Type 0
AnswersUnfit ts None = (p : ProgramTree) × IsProgram ts p
AnswersUnfit ts (Some n) = IsUnfitAfter ts n
