use Rattle.machine_standard_texts.proofs.Printed.{grew_by}
use Rattle.machine_standard_texts.proofs.printing.print_transcript.Goals as goal

pub returns-clause-told : goal.returns-clause-told
returns-clause-told c = c.finish.ensures _ _ _ c.put_unicode-halted.ensures.prints

pub returns-clause-text : goal.returns-clause-text
returns-clause-text c = grew_by c.requires.text c.put_unicode-halted.ensures.text
