use Rattle.std.proofs.Common.{◌-◌, length, map, drop}
use Rattle.meaning.specs.Views.{printed_of}
use Rattle.code_drafts.specs.Writing.{written_in, WritesBefore}
use Rattle.code_items.specs.Statements.{prints_items}
use Rattle.code_items.proofs.statement.put_prints.Given as goal

abbrev pub invariant-loop-done : goal.invariant-loop-done
invariant-loop-done l = WritesBefore (written_in l.initial.draft) (written_in l.draft)
    (λ n at. prints_items at (map printed_of (drop (length l.items - l.done) l.items)))
