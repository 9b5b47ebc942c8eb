use Rattle.std.proofs.Common.{sym, subst}
use Rattle.meaning.specs.Resolved as source
use Rattle.code_drafts.specs.declared.wanted.Wanted.{Wanted}
use Rattle.code_drafts.specs.Writing.{written_in, wanted_items, WritesBefore}
use Rattle.code_drafts.proofs.parts.put_read.Goals as goal

pub returns-in-Ok : goal.returns-in-Ok
returns-in-Ok c =
    let P : Wanted → Type 0 = λ w. WritesBefore (written_in c.args.draft.now) (written_in c.put_moved.new.draft)
    (wanted_items w (source.read c.args.variable)) in
    subst P (sym c.in-Word.is) c.in-Ok.ensures
