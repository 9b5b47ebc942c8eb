-- What the code's parts of statements stand for: their trees, without where they lie in memory.
use Rattle.std.specs.Prelude.{Bool, Option}
use Rattle.std.specs.Global.{Box}
use Rattle.std.specs.Option.{option_map}
use Rattle.syntax_trees.specs.declared.tree.Expression.{Expression}
use Rattle.syntax_trees.specs.declared.tree.Name.{Name}
use Rattle.syntax_trees.specs.Tree.{ExpressionTree}
use Rattle.syntax_trees.specs.Views.{name_tree, expression_tree}
use Rattle.syntax_statements.specs.declared.part_tree.Literal.{Literal}
use Rattle.syntax_statements.specs.declared.part_tree.Literal.TheVariants as values
use Rattle.syntax_statements.specs.declared.part_tree.Range.{Range}
use Rattle.syntax_statements.specs.declared.part_tree.Heading.{Heading}
use Rattle.syntax_statements.specs.declared.part_tree.Loop.{Loop}
use Rattle.syntax_statements.specs.declared.part_tree.Loop.TheVariants as loops
use Rattle.syntax_statements.specs.declared.part_tree.PrintItem.{PrintItem}
use Rattle.syntax_statements.specs.declared.part_tree.PrintItem.TheVariants as items
use Rattle.syntax_statements.specs.PartTree.{LiteralTree, number_value, word_value, named_value, RangeTree, LoopTree}
use Rattle.syntax_statements.specs.PartTree.{over_all, over_in, over_where, FlagTree, PrintItemTree, text_item}
use Rattle.syntax_statements.specs.PartTree.{character_item, object_item, number_item}

-- what stands in the parentheses of a `for`
pub record HeadingTree : Type 0 where
  pub before : Option ExpressionTree
  pub test : Option ExpressionTree
  pub after : Option ExpressionTree

abbrev pub literal_tree : Literal → LiteralTree
literal_tree (values.Number n) = number_value n
literal_tree (values.Word s) = word_value s.now
literal_tree (values.Named n) = named_value (name_tree n)

abbrev pub boxed_literal : Box Literal → LiteralTree
boxed_literal b = literal_tree b.value

abbrev pub range_tree : Range → RangeTree
range_tree r = record { low = literal_tree r.low; high = option_map boxed_literal r.high }

abbrev pub part_tree : Option (Box Expression) → Option ExpressionTree
part_tree e = option_map (λ x. expression_tree x.value) e

abbrev pub heading_tree : Heading → HeadingTree
heading_tree h = record { before = part_tree h.before; test = part_tree h.test; after = part_tree h.after }

abbrev pub loop_tree : Loop → LoopTree
loop_tree (loops.All n) = over_all (name_tree n)
loop_tree (loops.In n e) = over_in (name_tree n) (expression_tree e.value)
loop_tree (loops.Where n e) = over_where (name_tree n) (expression_tree e.value)

abbrev pub flag_tree : Bool × Name → FlagTree
flag_tree x = (x.0, name_tree x.1)

abbrev pub item_tree : PrintItem → PrintItemTree
item_tree (items.Text s) = text_item s.now
item_tree (items.Character p e) = character_item p (expression_tree e.value)
item_tree (items.Object p e) = object_item p (expression_tree e.value)
item_tree (items.Number p e) = number_item p (expression_tree e.value)
