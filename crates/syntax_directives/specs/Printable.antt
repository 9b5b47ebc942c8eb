-- Directives whose texts print: each of their bytes is one of 32 to 126.
use Rattle.std.specs.Prelude.{Option, Some, None}
use Rattle.std.specs.List.{All}
use Rattle.syntax_lexer.specs.Printable.{IsPrintable}
use Rattle.syntax_statements.specs.PartTree.{PrintItemTree, text_item}
use Rattle.syntax_statements.specs.Tree.{StatementTree, StatementTrees, CaseTrees, block, text_alone, print}
use Rattle.syntax_statements.specs.Tree.{print_return, if_then, if_else, while_do, do_until, for_loop, switch_on, each}
use Rattle.syntax_statements.specs.Tree.{each_in, each_where, stop, next, no_case, default_case, case}
use Rattle.syntax_directives.specs.Tree.{TextTree, DirectiveTree, routine, object}

abbrev pub IsPrintableItem : PrintItemTree → Type 0
IsPrintableItem (text_item bytes) = All IsPrintable bytes
IsPrintableItem _ = Unit {0}

abbrev mutual
  pub IsPrintableStatement : StatementTree → Type 0
  IsPrintableStatement (block xs) = ArePrintableStatements xs
  IsPrintableStatement (text_alone bytes) = All IsPrintable bytes
  IsPrintableStatement (print is) = All IsPrintableItem is
  IsPrintableStatement (print_return is) = All IsPrintableItem is
  IsPrintableStatement (if_then p c x) = IsPrintableStatement x
  IsPrintableStatement (if_else p c x y) = IsPrintableStatement x × IsPrintableStatement y
  IsPrintableStatement (while_do p c x) = IsPrintableStatement x
  IsPrintableStatement (do_until p x c) = IsPrintableStatement x
  IsPrintableStatement (for_loop p a b c x) = IsPrintableStatement x
  IsPrintableStatement (switch_on p e cs) = ArePrintableCases cs
  IsPrintableStatement (each n x) = IsPrintableStatement x
  IsPrintableStatement (each_in p n e x) = IsPrintableStatement x
  IsPrintableStatement (each_where p n e x) = IsPrintableStatement x
  IsPrintableStatement _ = Unit {0}

  pub ArePrintableStatements : StatementTrees → Type 0
  ArePrintableStatements stop = Unit {0}
  ArePrintableStatements (next x xs) = IsPrintableStatement x × ArePrintableStatements xs

  pub ArePrintableCases : CaseTrees → Type 0
  ArePrintableCases no_case = Unit {0}
  ArePrintableCases (default_case xs) = ArePrintableStatements xs
  ArePrintableCases (case gs xs cs) = ArePrintableStatements xs × ArePrintableCases cs

abbrev pub IsPrintableText : TextTree → Type 0
IsPrintableText s = All IsPrintable s.bytes

abbrev pub IsPrintableName : Option TextTree → Type 0
IsPrintableName None = Unit {0}
IsPrintableName (Some s) = IsPrintableText s

abbrev pub IsPrintableDirective : DirectiveTree → Type 0
IsPrintableDirective (routine r) = ArePrintableStatements r.body
IsPrintableDirective (object o) = IsPrintableName o.short
IsPrintableDirective _ = Unit {0}
