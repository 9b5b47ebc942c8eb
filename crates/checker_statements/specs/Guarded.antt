-- Words of proofs: statements that run by a value, and the variable of an `objectloop`.
use Rattle.std.specs.Prelude.{◌++◌}
use Rattle.syntax_lexer.specs.declared.token.Position.{Position}
use Rattle.syntax_trees.specs.Tree.{NameTree, ExpressionTree}
use Rattle.syntax_statements.specs.Tree.{StatementTree}
use Rattle.meaning.specs.declared.enclosure.Enclosure.{Enclosure}
use Rattle.meaning.specs.declared.resolved.Variable.{Variable}
use Rattle.meaning.specs.Resolved.{Value, Action, if_then, while_do, each_in, each_where}
use Rattle.checker_values.specs.declared.noting.Tally.{Tally}
use Rattle.checker_values.specs.Names.{Seen}
use Rattle.checker_values.specs.Expressions.{resolve}
use Rattle.checker_values.specs.Walk.{IsWalked}
use Rattle.checker_statements.specs.declared.guards.Guard.{Guard}
use Rattle.checker_statements.specs.declared.guards.Guard.TheVariants as guards
use Rattle.checker_statements.specs.Statements.{whole_breaches, statement_breaches, resolve_statement}
use Rattle.checker_statements.specs.Statements.{loop_breaches, loop_variable}

abbrev pub acted : Guard → Value → Action → Action
acted guards.If v a = if_then v a
acted guards.While v a = while_do v a
acted (guards.In x) v a = each_in x v a
acted (guards.Where x) v a = each_where x v a

-- in a routine that sees so much of the file
module _ (seen : Seen) where
  abbrev pub IsGuarded : Enclosure → Guard → Position → ExpressionTree → StatementTree → Tally → Tally
      → Action → Type 0
  IsGuarded inside guard p e s before after a =
      IsWalked (whole_breaches seen.look p e ++ statement_breaches seen.look inside s) before after a
      (acted guard (resolve seen e) (resolve_statement seen s))

  abbrev pub IsLoopVariable : NameTree → Tally → Tally → Variable → Type 0
  IsLoopVariable n before after x =
      IsWalked (loop_breaches n.position (seen.look n.text)) before after x (loop_variable seen n)
