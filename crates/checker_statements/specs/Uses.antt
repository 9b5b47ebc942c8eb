-- Words of proofs: statements of one value.
use Rattle.syntax_lexer.specs.declared.token.Position.{Position}
use Rattle.syntax_trees.specs.Tree.{ExpressionTree}
use Rattle.meaning.specs.Resolved.{Value, Action, return_value, remove_from, effect}
use Rattle.checker_values.specs.declared.noting.Tally.{Tally}
use Rattle.checker_values.specs.Names.{Seen}
use Rattle.checker_values.specs.Expressions.{resolve}
use Rattle.checker_values.specs.Walk.{IsWalked}
use Rattle.checker_statements.specs.declared.simple_rules.Use.{Use}
use Rattle.checker_statements.specs.declared.simple_rules.Use.TheVariants as uses
use Rattle.checker_statements.specs.Statements.{whole_breaches}

abbrev pub used_value : Use → Value → Action
used_value uses.Return v = return_value v
used_value uses.Remove v = remove_from v
used_value uses.Effect v = effect v

-- in a routine that sees so much of the file
abbrev pub IsUsed : Seen → Use → Position → ExpressionTree → Tally → Tally → Action → Type 0
IsUsed seen used p e before after a =
    IsWalked (whole_breaches seen.look p e) before after a (used_value used (resolve seen e))
