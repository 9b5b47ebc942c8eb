-- What the code's directives stand for: their trees, without where they lie in memory.
use Rattle.std.specs.Prelude.{map, Option, Some, None}
use Rattle.std.specs.Option.{option_map}
use Rattle.syntax_trees.specs.Views.{name_tree}
use Rattle.syntax_statements.specs.declared.part_tree.Literal.{Literal}
use Rattle.syntax_statements.specs.PartTree.{LiteralTree}
use Rattle.syntax_statements.specs.PartViews.{literal_tree}
use Rattle.syntax_statements.specs.Views.{statement_tree, trees_of}
use Rattle.syntax_directives.specs.declared.tree.ArrayValue.{ArrayValue}
use Rattle.syntax_directives.specs.declared.tree.Array.{Array}
use Rattle.syntax_directives.specs.declared.tree.Text.{Text}
use Rattle.syntax_directives.specs.declared.tree.Property.{Property}
use Rattle.syntax_directives.specs.declared.tree.Object.{Object}
use Rattle.syntax_directives.specs.declared.objects.Head.{Head}
use Rattle.syntax_directives.specs.declared.tree.Routine.{Routine}
use Rattle.syntax_directives.specs.declared.tree.Directive.{Directive}
use Rattle.syntax_directives.specs.declared.tree.Directive.TheVariants as directives
use Rattle.syntax_directives.specs.Tree.{ValueTree, ArrayTree, TextTree, PropertyTree, HeadTree, ObjectTree}
use Rattle.syntax_directives.specs.Tree.{RoutineTree, DirectiveTree, global, constant, array, attribute, property}
use Rattle.syntax_directives.specs.Tree.{object, routine}

abbrev pub optional_tree : Option Literal → Option LiteralTree
optional_tree None = None
optional_tree (Some v) = Some (literal_tree v)

abbrev pub value_tree : ArrayValue → ValueTree
value_tree v = record { position = v.position; value = literal_tree v.value }

abbrev pub array_tree : Array → ArrayTree
array_tree a = record { name = name_tree a.name; kind = a.kind; values = map value_tree a.values.items }

abbrev pub text_tree : Text → TextTree
text_tree s = record { bytes = s.bytes.now; position = s.position }

abbrev pub property_tree : Property → PropertyTree
property_tree p = record { name = name_tree p.name; values = map value_tree p.values.items }

abbrev pub head_tree : Head → HeadTree
head_tree h = record {
  arrows = h.arrows.items;
  name = name_tree h.name;
  short = option_map text_tree h.short;
  parent = option_map name_tree h.parent;
}

abbrev pub object_tree : Object → ObjectTree
object_tree o = record {
  arrows = o.arrows.items;
  name = name_tree o.name;
  short = option_map text_tree o.short;
  parent = option_map name_tree o.parent;
  properties = map property_tree o.properties.items;
  attributes = map name_tree o.attributes.items;
}

abbrev pub routine_tree : Routine → RoutineTree
routine_tree r =
    record {
      name = name_tree r.name;
      locals = map name_tree r.locals.items;
      body = trees_of (map statement_tree r.body.items);
      weight = r.weight;
    }

abbrev pub directive_tree : Directive → DirectiveTree
directive_tree (directives.Global n v) = global (name_tree n) (optional_tree v)
directive_tree (directives.Constant n v) = constant (name_tree n) (literal_tree v)
directive_tree (directives.Array a) = array (array_tree a)
directive_tree (directives.Attribute n) = attribute (name_tree n)
directive_tree (directives.Property n v) = property (name_tree n) (optional_tree v)
directive_tree (directives.Object o) = object (object_tree o)
directive_tree (directives.Routine r) = routine (routine_tree r)
