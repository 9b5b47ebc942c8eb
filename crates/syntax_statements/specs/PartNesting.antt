-- How deep tokens stand in what statements are made of: a relation between a number, the tokens from a place on, and
-- those from the deep one on, with one case for each place at which a part can stand in an alternative of the grammar.
-- The parentheses of `(char)` and `(object)` stand one deeper than what holds them.
use Rattle.std.specs.Prelude.{◌≡◌, Bool, true, false, ℕ, List, ◌∷◌, Option}
use Rattle.syntax_lexer.specs.declared.token.Position.{Position}
use Rattle.syntax_lexer.specs.declared.token.Sign.TheVariants as s
use Rattle.syntax_lexer.specs.declared.token.Word.TheVariants as w
use Rattle.syntax_lexer.specs.Token.{Lexeme, name, number, character, dictionary_word, reserved, sign, head, tail}
use Rattle.syntax_trees.specs.Tree.{ExpressionTree}
use Rattle.syntax_expressions.specs.Nesting.{DeepE}
use Rattle.syntax_statements.specs.PartTree.{PrintItemTree}
use Rattle.syntax_statements.specs.PartGrammar.{IsOptional, effect_or_none, IsItem}

-- the tokens that can follow a value at the beginning of a case
abbrev pub goes_on_in_case : Lexeme → Bool
goes_on_in_case (sign s.Comma _) = true
goes_on_in_case (sign s.Colon _) = true
goes_on_in_case (reserved w.To _) = true
goes_on_in_case _ = false

-- three tokens with which a case can begin: a value, and `,`, `to` or `:` after it
abbrev pub case_begins : Lexeme → Lexeme → Lexeme → Bool
case_begins (number _ _) t u = goes_on_in_case t
case_begins (character _ _) t u = goes_on_in_case t
case_begins (dictionary_word _ _) t u = goes_on_in_case t
case_begins (reserved w.True _) t u = goes_on_in_case t
case_begins (reserved w.False _) t u = goes_on_in_case t
case_begins (reserved w.Nothing _) t u = goes_on_in_case t
case_begins (name _ _) t u = goes_on_in_case t
case_begins (sign s.Minus _) (number _ _) u = goes_on_in_case u
case_begins _ t u = false

unfoldable pub begins_case : List Lexeme → Bool
begins_case ts = case_begins (head ts) (head (tail ts)) (head (tail (tail ts)))

-- Item = text | "(" "char" ")" E | "(" "object" ")" E | E
pub data DeepItem : ℕ → List Lexeme → List Lexeme → Type 0 where
  deep_item_parenthesis : {m : List Lexeme} {p q : Position}
      → DeepItem 1 (sign s.OpenParenthesis p ∷ reserved w.Char q ∷ m) (sign s.OpenParenthesis p ∷ reserved w.Char q ∷ m)
  deep_item_character : {n : ℕ} {m u : List Lexeme} {p q o : Position} → DeepE n m u
      → DeepItem n (sign s.OpenParenthesis p ∷ reserved w.Char q ∷ sign s.CloseParenthesis o ∷ m) u
  deep_item_object_parenthesis : {m : List Lexeme} {p q : Position}
      → DeepItem 1 (sign s.OpenParenthesis p ∷ reserved w.Object q ∷ m)
      (sign s.OpenParenthesis p ∷ reserved w.Object q ∷ m)
  deep_item_object : {n : ℕ} {m u : List Lexeme} {p q o : Position} → DeepE n m u
      → DeepItem n (sign s.OpenParenthesis p ∷ reserved w.Object q ∷ sign s.CloseParenthesis o ∷ m) u
  deep_item_number : {n : ℕ} {ts u : List Lexeme} → DeepE n ts u → DeepItem n ts u

-- Item {"," Item}
pub data DeepItems : ℕ → List Lexeme → List Lexeme → Type 0 where
  deep_items_first : {n : ℕ} {ts u : List Lexeme} → DeepItem n ts u → DeepItems n ts u
  deep_items_next : {n : ℕ} {ts m u : List Lexeme} {p : Position} {i : PrintItemTree}
      → IsItem ts i (sign s.Comma p ∷ m) → DeepItems n m u → DeepItems n ts u

-- [X] ":" [E] ":" [X]
pub data DeepHeading : ℕ → List Lexeme → List Lexeme → Type 0 where
  deep_heading_before : {n : ℕ} {m u : List Lexeme} → DeepE n m u → DeepHeading n m u
  deep_heading_test : {n : ℕ} {m k u : List Lexeme} {p : Position} {a : Option ExpressionTree}
      → IsOptional m a (sign s.Colon p ∷ k) → effect_or_none a ≡ true → DeepE n k u → DeepHeading n m u
  deep_heading_after : {n : ℕ} {m k l u : List Lexeme} {p q : Position} {a b : Option ExpressionTree}
      → IsOptional m a (sign s.Colon p ∷ k) → effect_or_none a ≡ true → IsOptional k b (sign s.Colon q ∷ l)
      → DeepE n l u → DeepHeading n m u
