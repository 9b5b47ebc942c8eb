use Rattle.machine_frames.proofs.Steps.{told_err}
use Rattle.machine_opcodes.proofs.Transcripts.{grew_still}
use Rattle.machine_standard_texts.proofs.Adding.{codes_none}
use Rattle.machine_standard_tables.proofs.Rows.{division_told, line_stops}
use Rattle.machine_standard_tables.proofs.printing.print_row_division.Goals as goal

pub returns-then-row-eq0-clause-told : goal.returns-then-row-eq0-clause-told
returns-then-row-eq0-clause-told c = rw c.if-row-eq0.true (codes_none c.args.characters.now _ _ c.requires.sound)

pub returns-then-row-eq0-clause-text : goal.returns-then-row-eq0-clause-text
returns-then-row-eq0-clause-text c = grew_still _ _ c.requires.text

pub returns-in_err-print_code-clause-told : goal.returns-in_err-print_code-clause-told
returns-in_err-print_code-clause-told c = told_err _ c.from_residual.ensures.1
    (line_stops c.args.characters.now c.args.indent c.args.row c.if-row-eq0.false c.in_err-print_code.ensures.told)

pub returns-clause-told : goal.returns-clause-told
returns-clause-told c = division_told c.args.characters.now c.args.indent c.args.row c.if-row-eq0.false
    c.in_ok-print_code.ensures.told c.print_spaces.ensures.told
