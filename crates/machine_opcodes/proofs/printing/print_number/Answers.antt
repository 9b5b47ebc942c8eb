use Rattle.std.proofs.Common.{◌∙◌, arith}
use Rattle.std.proofs.lemmas.List.{take_all, length-drop}
use Rattle.machine_opcodes.proofs.Transcripts.{characters_as}
use Rattle.machine_opcodes.proofs.printing.print_number.Goals as goal

pub returns-clause-told : goal.returns-clause-told
returns-clause-told c =
    let d = c.signed_digits-first in
    characters_as _ _ _ _
    (take_all _ _ (omega (arith, length-drop d.result.1 d.result.0, d.ensures.length)) ∙ d.ensures.digits)
    c.print_characters.ensures.told
