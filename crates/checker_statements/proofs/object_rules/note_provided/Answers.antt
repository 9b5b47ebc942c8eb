use Rattle.syntax_directives.specs.Views.{property_tree}
use Rattle.checker_values.proofs.Mapped.{note_next, note_end}
use Rattle.checker_statements.specs.Objects.{provided_breaches}
use Rattle.checker_statements.proofs.object_rules.note_provided.Goals as goal

pub loop-one-preserved : goal.loop-one-preserved
loop-one-preserved c =
    note_next property_tree (provided_breaches c.args.file.now.table.entries) c.loop-one.tally
    c.provided.new.tally _ c.args.written.now c.loop-one.one-index c.one-item.result c.loop-one-test.true
    c.one-item.is c.in_ok-provided.ensures.breaches c.loop-one.invariant

pub returns : goal.returns
returns c =
    note_end property_tree (provided_breaches c.args.file.now.table.entries) c.loop-one.tally _ c.args.written.now
    c.loop-one.one-index c.loop-one-test.false c.loop-one.invariant
