use Rattle.std.proofs.Common.{arith}
use Rattle.syntax_directives.specs.Views.{value_tree}
use Rattle.checker_values.specs.Scope.{file_in}
use Rattle.checker_statements.specs.Objects.{word_of, value_breaches}
use Rattle.checker_values.proofs.Mapped.{list_there, list_end, note_there, note_end}
use Rattle.checker_statements.proofs.object_rules.words.Goals as goal

pub loop-value-preserved : goal.loop-value-preserved
loop-value-preserved c = record {
  found = list_there value_tree (word_of (file_in c.args.file.now)) c.loop-value.found.items _ _ c.word.result
      c.args.values.now c.loop-value.value-index _ c.loop-value-test.true
      c.push_reserved.ensures.items c.word.ensures.value c.loop-value.invariant.found;
  tally = note_there value_tree (value_breaches c.args.file.now.table.entries) c.loop-value.tally c.word.new.tally _
      c.args.values.now c.loop-value.value-index _ c.loop-value-test.true
      c.word.ensures.breaches c.loop-value.invariant.tally;
  count = omega (arith, c.push_reserved.ensures.len, c.loop-value.invariant.count);
  room = omega (arith, c.push_reserved.ensures.capacity, c.loop-value.invariant.room);
}

pub returns-clause-words : goal.returns-clause-words
returns-clause-words c =
    list_end value_tree (word_of (file_in c.args.file.now)) c.loop-value.found.items _ c.args.values.now
    c.loop-value.value-index c.loop-value-test.false c.loop-value.invariant.found

pub returns-clause-breaches : goal.returns-clause-breaches
returns-clause-breaches c =
    note_end value_tree (value_breaches c.args.file.now.table.entries) c.loop-value.tally _ c.args.values.now
    c.loop-value.value-index c.loop-value-test.false c.loop-value.invariant.tally
