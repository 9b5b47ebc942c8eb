-- What the code's statements stand for: their trees, without where they lie in memory.
use Rattle.std.specs.Prelude.{List, [], ◌∷◌, map, Option, Some, None}
use Rattle.std.specs.Global.{Vec}
use Rattle.std.specs.Option.{option_map}
use Rattle.syntax_trees.specs.Views.{name_tree, expression_tree}
use Rattle.syntax_statements.specs.PartTree.{RangeTree}
use Rattle.syntax_statements.specs.PartViews.{range_tree, part_tree, loop_tree, flag_tree, item_tree}
use Rattle.syntax_statements.specs.declared.part_tree.Range.{Range}
use Rattle.syntax_statements.specs.declared.tree.SimpleStatement.{SimpleStatement}
use Rattle.syntax_statements.specs.declared.tree.SimpleStatement.TheVariants as simple
use Rattle.syntax_statements.specs.declared.tree.Statement.{Statement, fold-Statement}
use Rattle.syntax_statements.specs.declared.tree.Statement.TheOpen.{Statement-F}
use Rattle.syntax_statements.specs.Tree.{StatementTree, empty, block, text_alone, print, print_return, new_line}
use Rattle.syntax_statements.specs.Tree.{if_then, if_else, while_do, do_until, for_loop, switch_on, break_at}
use Rattle.syntax_statements.specs.Tree.{continue_at, return_alone, return_value, return_true, return_false, quit}
use Rattle.syntax_statements.specs.Tree.{read_line, give, move, remove, effect, StatementTrees, stop, next, CaseTrees}
use Rattle.syntax_statements.specs.Tree.{no_case, default_case, case, loop_over}

-- a case: its ranges and its statements
abbrev pub CaseTree : Type 0
CaseTree = List RangeTree × StatementTrees

abbrev pub simple_tree : SimpleStatement → StatementTree
simple_tree (simple.Text s) = text_alone s.now
simple_tree (simple.Print items) = print (map item_tree items.items)
simple_tree (simple.PrintReturn items) = print_return (map item_tree items.items)
simple_tree simple.NewLine = new_line
simple_tree (simple.Break p) = break_at p
simple_tree (simple.Continue p) = continue_at p
simple_tree simple.Return = return_alone
simple_tree (simple.ReturnValue p e) = return_value p (expression_tree e.value)
simple_tree simple.ReturnTrue = return_true
simple_tree simple.ReturnFalse = return_false
simple_tree simple.Quit = quit
simple_tree (simple.Read names) = read_line (name_tree names.value.0) (name_tree names.value.1)
simple_tree (simple.Give p e xs) = give p (expression_tree e.value) (map flag_tree xs.value.items)
simple_tree (simple.Move p a b) = move p (expression_tree a.value) (expression_tree b.value)
simple_tree (simple.Remove p e) = remove p (expression_tree e.value)
simple_tree (simple.Effect p e) = effect p (expression_tree e.value)

abbrev pub trees_of : List StatementTree → StatementTrees
trees_of [] = stop
trees_of (x ∷ xs) = next x (trees_of xs)

-- cases, and the statements of `default`
abbrev pub cases_of : List CaseTree → Option (List StatementTree) → CaseTrees
cases_of [] None = no_case
cases_of [] (Some xs) = default_case (trees_of xs)
cases_of (c ∷ cs) other = case c.0 c.1 (cases_of cs other)

abbrev pub layer : Statement-F StatementTree → StatementTree
layer Statement-F.Empty = empty
layer (Statement-F.Simple s) = simple_tree s
layer (Statement-F.Block xs) = block (trees_of xs.items)
layer (Statement-F.If p c x) = if_then p (expression_tree c.value) x.value
layer (Statement-F.IfElse p c x y) = if_else p (expression_tree c.value) x.value y.value
layer (Statement-F.While p c x) = while_do p (expression_tree c.value) x.value
layer (Statement-F.Do p x c) = do_until p x.value (expression_tree c.value)
layer (Statement-F.For p h x) = for_loop p (part_tree h.value.before) (part_tree h.value.test)
    (part_tree h.value.after) x.value
layer (Statement-F.Objectloop p l x) = loop_over p (loop_tree l.value) x.value
layer (Statement-F.Switch p e cases) = switch_on p (expression_tree e.value)
    (cases_of (map (λ c. (map range_tree c.0.items, trees_of c.1.items)) cases.value.0.items)
    (option_map (λ xs. xs.items) cases.value.1))

abbrev pub statement_tree : Statement → StatementTree
statement_tree = fold-Statement StatementTree layer

unfoldable pub case_tree : Vec Range × Vec Statement → CaseTree
case_tree c = (map range_tree c.0.items, trees_of (map statement_tree c.1.items))

abbrev pub other_tree : Option (Vec Statement) → Option (List StatementTree)
other_tree other = option_map (λ xs. map statement_tree xs.items) other
