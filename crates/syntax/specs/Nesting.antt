-- How deep tokens stand in programs: a relation between a number, the tokens from a place on, and those from the deep
-- one on, with one case for each place at which a part can stand.
--
-- DeepEntries n ts u: entries that begin at ts can be read as far as the first token of u, which stands n nestings
-- deep in one of them. What lies before that token in its parts is complete.
use Rattle.std.specs.Prelude.{ℕ, List}
use Rattle.syntax_lexer.specs.Token.{Lexeme}
use Rattle.syntax_directives.specs.Nesting.{DeepDirective}
use Rattle.syntax.specs.Tree.{EntryTree}
use Rattle.syntax.specs.Grammar.{IsEntry}

-- {Entry}
pub data DeepEntries : ℕ → List Lexeme → List Lexeme → Type 0 where
  deep_entries_first : {n : ℕ} {ts u : List Lexeme} → DeepDirective n ts u → DeepEntries n ts u
  deep_entries_next : {n : ℕ} {ts m u : List Lexeme} {e : EntryTree} → IsEntry ts e m → DeepEntries n m u
      → DeepEntries n ts u

-- some token of a program stands that deep
abbrev pub DeepProgram : ℕ → List Lexeme → Type 0
DeepProgram n ts = (u : List Lexeme) × DeepEntries n ts u
