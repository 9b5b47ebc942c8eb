use Rattle.std.proofs.Common.{subst}
use Rattle.ztext.specs.Reading.{End, Character, Abbreviation}
use Rattle.ztext.specs.Faults.{FailsText}
use Rattle.machine_frames.specs.Contents.{memory_of}
use Rattle.machine_standard_texts.proofs.Adding.{text_unread}
use Rattle.machine_standard_texts.proofs.printing.unread.Goals as goal

pub returns-in-End : goal.returns-in-End
returns-in-End c = λ read h. text_unread c.args.store.now read End c.requires
    (subst (λ f. FailsText f (read (memory_of c.args.store.now.store))) c.in-End.is h)

pub returns-in-Character : goal.returns-in-Character
returns-in-Character c = λ read h. text_unread c.args.store.now read Character c.requires
    (subst (λ f. FailsText f (read (memory_of c.args.store.now.store))) c.in-Character.is h)

pub returns-in-Abbreviation : goal.returns-in-Abbreviation
returns-in-Abbreviation c = λ read h. text_unread c.args.store.now read Abbreviation c.requires
    (subst (λ f. FailsText f (read (memory_of c.args.store.now.store))) c.in-Abbreviation.is h)
