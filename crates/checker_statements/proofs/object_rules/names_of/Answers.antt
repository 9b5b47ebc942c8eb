use Rattle.std.proofs.Common.{refl, ap, ◌∙◌, arith}
use Rattle.std.specs.Prelude.{map}
use Rattle.syntax_trees.specs.Views.{name_tree}
use Rattle.syntax_directives.specs.Views.{property_tree}
use Rattle.checker_values.proofs.Mapped.{list_next, list_end, map_push}
use Rattle.checker_statements.specs.Objects.{property_name}
use Rattle.checker_statements.proofs.object_rules.names_of.Goals as goal

pub loop-one-preserved : goal.loop-one-preserved
loop-one-preserved c = record {
  found = list_next property_tree property_name (map name_tree c.loop-one.names.items) _ _
      (name_tree c.one-item.result.name)
      c.args.written.now c.loop-one.one-index c.one-item.result c.loop-one-test.true c.one-item.is
      (ap (λ ns. map name_tree ns) c.push_reserved.ensures.items
      ∙ map_push name_tree c.loop-one.names.items c.one-item.result.name) refl c.loop-one.invariant.found;
  count = omega (arith, c.push_reserved.ensures.len, c.loop-one.invariant.count);
  room = omega (arith, c.push_reserved.ensures.capacity, c.loop-one.invariant.room);
}

pub returns : goal.returns
returns c =
    list_end property_tree property_name (map name_tree c.loop-one.names.items) _ c.args.written.now
    c.loop-one.one-index c.loop-one-test.false c.loop-one.invariant.found
