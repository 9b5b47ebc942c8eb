use Rattle.std.proofs.Common.{◌-◌, length, drop}
use Rattle.code_drafts.specs.Writing.{written_in}
use Rattle.code_items.specs.ValueWriting.{ReducesProperties}
use Rattle.code_items.proofs.objects.put_properties.Given as goal

abbrev pub invariant-loop-done : goal.invariant-loop-done
invariant-loop-done l =
    ReducesProperties (written_in l.initial.draft) (written_in l.draft) l.initial.wanted l.wanted
    (drop (length l.numbers - l.done) l.numbers)
