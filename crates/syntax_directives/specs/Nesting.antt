-- How deep tokens stand in directives: a relation between a number, the tokens from a place on, and those from the
-- deep one on, with one case for each place at which a part can stand.
--
-- DeepDirective n ts u: a directive that begins at ts can be read as far as the first token of u, which stands n
-- nestings deep in it. What lies before that token in its parts is complete. The brackets of a routine are no nesting,
-- nor is a statement directly in it.
use Rattle.std.specs.Prelude.{ℕ, List, ◌∷◌}
use Rattle.syntax_lexer.specs.declared.token.Position.{Position}
use Rattle.syntax_lexer.specs.declared.token.Sign.TheVariants as s
use Rattle.syntax_lexer.specs.Token.{Lexeme, name, sign}
use Rattle.syntax_trees.specs.Tree.{NameTree}
use Rattle.syntax_statements.specs.Nesting.{DeepSs}
use Rattle.syntax_directives.specs.Grammar.{IsNames}

-- Directive = .. | "[" name {name} ";" {S} "]" ";"
pub data DeepDirective : ℕ → List Lexeme → List Lexeme → Type 0 where
  deep_d_routine : {n : ℕ} {m k u : List Lexeme} {p q o : Position} {f : List ℕ} {ns : List NameTree}
      → IsNames m ns (sign s.Semicolon o ∷ k) → DeepSs n k u → DeepDirective n (sign s.OpenBracket p ∷ name f q ∷ m) u
