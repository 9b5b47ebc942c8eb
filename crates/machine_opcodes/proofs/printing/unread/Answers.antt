use Rattle.std.proofs.Common.{refl, subst}
use Rattle.ztext.specs.Reading.{End, Character, Abbreviation}
use Rattle.ztext.specs.Text.{decoded}
use Rattle.ztext.specs.Faults.{FailsText}
use Rattle.machine_frames.specs.Contents.{memory_of}
use Rattle.machine_opcodes.proofs.Operating.{text_unread}
use Rattle.machine_opcodes.proofs.printing.unread.Goals as goal

pub returns-in-End : goal.returns-in-End
returns-in-End c = λ address h. text_unread c.args.store.now (memory_of c.args.store.now.store) address End
    c.requires refl
    (subst (λ f. FailsText f (decoded (memory_of c.args.store.now.store) address)) c.in-End.is h)

pub returns-in-Character : goal.returns-in-Character
returns-in-Character c = λ address h. text_unread c.args.store.now (memory_of c.args.store.now.store) address Character
    c.requires refl
    (subst (λ f. FailsText f (decoded (memory_of c.args.store.now.store) address)) c.in-Character.is h)

pub returns-in-Abbreviation : goal.returns-in-Abbreviation
returns-in-Abbreviation c = λ address h. text_unread c.args.store.now (memory_of c.args.store.now.store) address
    Abbreviation c.requires refl
    (subst (λ f. FailsText f (decoded (memory_of c.args.store.now.store) address)) c.in-Abbreviation.is h)
