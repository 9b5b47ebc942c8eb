-- Words of contracts and proofs: statements that are put at the end of a row, one after the other.
use Rattle.std.specs.Prelude.{if◌then◌else◌, ℕ, Bool, true, false, List, [], ◌∷◌, ◌++◌, map, Result, Ok}
use Rattle.syntax_lexer.specs.declared.token.Sign.TheVariants as s
use Rattle.syntax_lexer.specs.declared.token.Word.{Word}
use Rattle.syntax_lexer.specs.declared.token.Word.TheVariants as w
use Rattle.syntax_lexer.specs.Token.{Lexeme, reserved, sign}
use Rattle.syntax_trees.specs.Stop.{Stop}
use Rattle.syntax_trees.specs.Parse.{Parse, ◌>>=◌, head, tail, is_sign}
use Rattle.syntax_trees.specs.Returned.{Takes}
use Rattle.syntax_trees.specs.declared.error.ParseError.{ParseError}
use Rattle.syntax_trees.specs.declared.parser.Parser.{Parser}
use Rattle.syntax_statements.specs.declared.tree.Statement.{Statement}
use Rattle.syntax_statements.specs.Tree.{StatementTree, empty}
use Rattle.syntax_statements.specs.Views.{statement_tree}
use Rattle.syntax_statements.specs.Parse.{plain_on}

-- the words of statements that contain others
abbrev pub word_contains : Word → Bool
word_contains w.If = true
word_contains w.While = true
word_contains w.Do = true
word_contains w.For = true
word_contains w.Objectloop = true
word_contains w.Switch = true
word_contains _ = false

-- the tokens with which a statement begins that contains others
abbrev pub contains_statements : Lexeme → Bool
contains_statements (sign s.OpenBrace _) = true
contains_statements (reserved word _) = word_contains word
contains_statements _ = false

-- a statement that contains no others, where d nestings more may be opened
unfoldable pub flat : ℕ → Parse StatementTree
flat d ts = if is_sign s.Semicolon (head ts) then Ok (empty, tail ts) else plain_on d (head ts) ts

-- what is read, after what was read before
abbrev pub after : {A : Type 0} → List A → Result (A × List Lexeme) Stop → Result (List A × List Lexeme) Stop
after before read = read >>= λ x. Ok (before ++ x.0 ∷ [], x.1)

-- What a function returned that puts a statement at the end of a row: the trees of the row, which is now longer by what
-- reading gives, and the tokens that are left.
abbrev pub AddsStatement : {X : Type 0} → Result X ParseError → List Statement → List Statement → Parser
    → Result (StatementTree × List Lexeme) Stop → Type 0
AddsStatement result before longer left read =
    Takes (λ _. map statement_tree longer) result left (after (map statement_tree before) read)
