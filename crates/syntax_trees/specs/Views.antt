-- What the code's expressions stand for: their trees, without where they lie in memory.
use Rattle.std.specs.Prelude.{List, [], ◌∷◌}
use Rattle.syntax_trees.specs.declared.tree.Name.{Name}
use Rattle.syntax_trees.specs.declared.tree.Binary.{Binary}
use Rattle.syntax_trees.specs.declared.tree.Expression.{Expression, fold-Expression}
use Rattle.syntax_trees.specs.declared.tree.Expression.TheOpen.{Expression-F}
use Rattle.syntax_trees.specs.Tree.{NameTree, ExpressionTree, constant, word, named, call, index, parenthesised}
use Rattle.syntax_trees.specs.Tree.{relative_of, property, property_length, property_entry, prefixed, step_before}
use Rattle.syntax_trees.specs.Tree.{step_after, binary, compare, equal, contained, tested, assign, ExpressionTrees}
use Rattle.syntax_trees.specs.Tree.{none, more}

abbrev pub name_tree : Name → NameTree
name_tree n = record { text = n.text.now; position = n.position }

abbrev pub trees_of : List ExpressionTree → ExpressionTrees
trees_of [] = none
trees_of (e ∷ es) = more e (trees_of es)

-- a chain groups to the left
abbrev pub chained : ExpressionTree → List (Binary × ExpressionTree) → ExpressionTree
chained e [] = e
chained e (l ∷ ls) = chained (binary l.0 e l.1) ls

-- properties, each of the value of the one before it
abbrev pub propertied : ExpressionTree → List Name → ExpressionTree
propertied e [] = e
propertied e (n ∷ ns) = propertied (property e (name_tree n)) ns

abbrev pub layer : Expression-F ExpressionTree → ExpressionTree
layer (Expression-F.Constant n) = constant n
layer (Expression-F.Word s) = word s.now
layer (Expression-F.Named n) = named (name_tree n)
layer (Expression-F.Call n es) = call (name_tree n.value) (trees_of es.items)
layer (Expression-F.Index n width e) = index (name_tree n) width e.value
layer (Expression-F.Parenthesised e) = parenthesised e.value
layer (Expression-F.RelativeOf r e) = relative_of r e.value
layer (Expression-F.Property e n ns) = propertied (property e.value (name_tree n.value)) ns.items
layer (Expression-F.PropertyLength e n) = property_length e.value (name_tree n)
layer (Expression-F.PropertyEntry e n i) = property_entry e.value (name_tree n) i.value
layer (Expression-F.Prefixed op e) = prefixed op e.value
layer (Expression-F.StepBefore op p e) = step_before op p e.value
layer (Expression-F.StepAfter e op p) = step_after e.value op p
layer (Expression-F.Chain a op b ls) = chained (binary op a.value b.value) ls.items
layer (Expression-F.Compare a op b) = compare op a.value b.value
layer (Expression-F.Equal a op b es) = equal op a.value (more b.value (trees_of es.items))
layer (Expression-F.Contained a op b) = contained op a.value b.value
layer (Expression-F.Tested a test n) = tested test a.value (name_tree n)
layer (Expression-F.Assign a p b) = assign a.value p b.value

abbrev pub expression_tree : Expression → ExpressionTree
expression_tree = fold-Expression ExpressionTree layer

-- an operator and its right operand
abbrev pub link : Binary × Expression → Binary × ExpressionTree
link l = (l.0, expression_tree l.1)
