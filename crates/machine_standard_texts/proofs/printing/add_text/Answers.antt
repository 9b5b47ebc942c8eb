use Rattle.std.proofs.Common.{ap, subst, ◌∙◌}
use Rattle.ztext.specs.Faults.{FailsText}
use Rattle.zcore_standard.specs.Printing.{any_text_at}
use Rattle.zcore_standard.specs.Texts.{alphabets_of, codes_at}
use Rattle.machine_frames.specs.Contents.{memory_of}
use Rattle.machine_standard_texts.proofs.Adding.{text_read}
use Rattle.machine_standard_texts.proofs.printing.add_text.Goals as goal

pub returns-in-Ok-clause-adds : goal.returns-in-Ok-clause-adds
unfolding any_text_at
returns-in-Ok-clause-adds c =
    let read = rw (c.characters.ensures, c.alphabets.ensures) at c.in-Ok.ensures.read in (
      read.0,
      text_read _ (λ m. codes_at (alphabets_of c.args.loaded.now) m c.args.address) _ _ c.requires.sound
          (c.memory.ensures ∙ ap memory_of c.store.ensures) read.1,
      read.2,
    )

pub returns-in-Err-clause-adds : goal.returns-in-Err-clause-adds
unfolding any_text_at
returns-in-Err-clause-adds c =
    let alphabets = alphabets_of c.args.loaded.now in (
      c.unread.ensures (λ m. codes_at alphabets m c.args.address)
          (subst (λ l. FailsText c.in-Err.fault (codes_at alphabets l c.args.address))
          (c.memory.ensures ∙ ap memory_of c.store.ensures) (rw c.alphabets.ensures at c.in-Err.ensures.read.0)),
      c.in-Err.ensures.read.1,
    )
