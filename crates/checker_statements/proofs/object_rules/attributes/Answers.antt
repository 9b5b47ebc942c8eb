use Rattle.std.proofs.Common.{arith}
use Rattle.syntax_trees.specs.Views.{name_tree}
use Rattle.checker_values.specs.Scope.{file_in}
use Rattle.checker_values.proofs.Mapped.{list_there, list_end, note_there, note_end}
use Rattle.checker_statements.specs.Objects.{given_of, given_breaches}
use Rattle.checker_statements.proofs.object_rules.attributes.Goals as goal

pub loop-name-preserved : goal.loop-name-preserved
loop-name-preserved c = record {
  found = list_there name_tree (given_of (file_in c.args.file.now)) c.loop-name.found.items _ _ c.given_attribute.result
      c.args.names.now c.loop-name.name-index _ c.loop-name-test.true
      c.push_reserved.ensures.items c.given_attribute.ensures.value c.loop-name.invariant.found;
  tally = note_there name_tree (given_breaches c.args.file.now.table.entries) c.loop-name.tally c.given_attribute.new.tally _
      c.args.names.now c.loop-name.name-index _ c.loop-name-test.true
      c.given_attribute.ensures.breaches c.loop-name.invariant.tally;
  count = omega (arith, c.push_reserved.ensures.len, c.loop-name.invariant.count);
  room = omega (arith, c.push_reserved.ensures.capacity, c.loop-name.invariant.room);
}

pub returns-clause-value : goal.returns-clause-value
returns-clause-value c =
    list_end name_tree (given_of (file_in c.args.file.now)) c.loop-name.found.items _ c.args.names.now
    c.loop-name.name-index c.loop-name-test.false c.loop-name.invariant.found

pub returns-clause-breaches : goal.returns-clause-breaches
returns-clause-breaches c =
    note_end name_tree (given_breaches c.args.file.now.table.entries) c.loop-name.tally _ c.args.names.now
    c.loop-name.name-index c.loop-name-test.false c.loop-name.invariant.tally
