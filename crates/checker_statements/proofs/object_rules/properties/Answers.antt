use Rattle.std.proofs.Common.{List, ap, sym, ◌∙◌}
use Rattle.std.specs.Prelude.{map}
use Rattle.syntax_directives.specs.declared.tree.Property.{Property}
use Rattle.syntax_directives.specs.Views.{property_tree}
use Rattle.checker_values.specs.Scope.{file_in}
use Rattle.meaning.specs.Views.{property_of}
use Rattle.checker_values.proofs.Dropped.{drop_end}
use Rattle.checker_statements.specs.Objects.{with_properties, provided_breaches}
use Rattle.checker_values.proofs.Mapped.{note_next, note_end}
use Rattle.checker_statements.proofs.ObjectLists.{properties_next}
use Rattle.checker_statements.proofs.object_rules.properties.Goals as goal

pub loop-one-preserved : goal.loop-one-preserved
loop-one-preserved c = record {
  found = properties_next (file_in c.args.file.now) (map property_of c.loop-one.found.items) _ _
      (property_of c.in-Ok.added) c.args.written.now c.loop-one.one-index c.one-item.result c.loop-one-test.true
      c.one-item.is c.in-Ok.ensures.value c.in-Ok-add_property.ensures c.loop-one.invariant.found;
  tally = note_next property_tree (provided_breaches c.args.file.now.table.entries) c.loop-one.tally
      c.provided.new.tally _ c.args.written.now c.loop-one.one-index c.one-item.result c.loop-one-test.true
      c.one-item.is c.in-Ok.ensures.breaches c.loop-one.invariant.tally;
}

pub returns-clause-value : goal.returns-clause-value
returns-clause-value c =
    ap (λ (ps : List Property). with_properties (file_in c.args.file.now) (map property_of c.loop-one.found.items)
    (map property_tree ps)) (sym (drop_end c.args.written.now c.loop-one.one-index c.loop-one-test.false))
    ∙ c.loop-one.invariant.found

pub returns-clause-breaches : goal.returns-clause-breaches
returns-clause-breaches c =
    note_end property_tree (provided_breaches c.args.file.now.table.entries) c.loop-one.tally _ c.args.written.now
    c.loop-one.one-index c.loop-one-test.false c.loop-one.invariant.tally
