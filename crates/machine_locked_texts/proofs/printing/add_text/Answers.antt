use Rattle.std.proofs.Common.{ap, subst, sym, ◌∙◌}
use Rattle.ztext.specs.Faults.{FailsText}
use Rattle.zcore_versions.specs.LockedTexts.{locked_codes_at}
use Rattle.zcore_versions.specs.Printing.{codes_in, text_in}
use Rattle.zcore_versions.specs.Versions.{versioned}
use Rattle.machine_frames.specs.Contents.{memory_of}
use Rattle.machine_standard_texts.proofs.Adding.{text_read}
use Rattle.machine_locked_texts.proofs.LockedPrinting.{locked_read}
use Rattle.machine_locked_texts.proofs.printing.add_text.Goals as goal

pub returns-in-Ok-clause-adds : goal.returns-in-Ok-clause-adds
unfolding text_in
returns-in-Ok-clause-adds c =
    let story = versioned c.args.loaded.now c.args.version in
    let read = rw c.characters.ensures at c.in-Ok.ensures.read in (
      read.0,
      text_read _ (λ m. codes_in story m c.args.address) _ _ c.requires.sound
          (c.memory.ensures ∙ ap memory_of c.store.ensures)
          (sym (locked_read c.args.loaded.now c.args.version _ c.args.address c.requires.locked) ∙ read.1),
      read.2,
    )

pub returns-in-Err-clause-adds : goal.returns-in-Err-clause-adds
unfolding text_in
returns-in-Err-clause-adds c =
    let story = versioned c.args.loaded.now c.args.version in
    let memory = c.memory.ensures ∙ ap memory_of c.store.ensures in (
      c.unread.ensures (λ m. codes_in story m c.args.address)
          (subst (λ r. FailsText c.in-Err.fault r)
          (ap (λ l. locked_codes_at c.args.version.number l c.args.address) memory
          ∙ locked_read c.args.loaded.now c.args.version _ c.args.address c.requires.locked)
          c.in-Err.ensures.read.0),
      c.in-Err.ensures.read.1,
    )
