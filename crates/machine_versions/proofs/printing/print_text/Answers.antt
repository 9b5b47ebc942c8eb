use Rattle.std.proofs.Common.{◌∙◌, sym}
use Rattle.zcore_versions.specs.Printing.{print_text}
use Rattle.zcore_versions.specs.Versions.{versioned}
use Rattle.machine_frames.proofs.Steps.{told_as}
use Rattle.machine_versions.proofs.VersionTexts.{text_printed}
use Rattle.machine_versions.proofs.printing.print_text.Goals as goal

pub print_address-requires-clause-locked : goal.print_address-requires-clause-locked
print_address-requires-clause-locked c = sym c.locks_alphabets.ensures ∙ c.if-locks_alphabets.true

pub returns-clause-told : goal.returns-clause-told
returns-clause-told c =
    told_as _ (print_text (versioned c.args.loaded.now c.args.version) c.args.here c.args.after c.args.address)
    (text_printed c.args.loaded.now c.args.version c.args.here c.args.after c.args.address _
    (sym c.locks_alphabets.ensures ∙ c.if-locks_alphabets.false))
    c.print_any_address.ensures.told
