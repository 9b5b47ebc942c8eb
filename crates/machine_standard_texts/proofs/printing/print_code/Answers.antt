use Rattle.machine_standard_texts.proofs.Printed.{grew_by, on_begun}
use Rattle.machine_standard_texts.proofs.printing.print_code.Goals as goal

pub returns-clause-told : goal.returns-clause-told
returns-clause-told c = c.finish.ensures _ _ _ (on_begun _ c.put_next-halted.ensures.prints)

pub returns-clause-text : goal.returns-clause-text
returns-clause-text c = grew_by c.requires.text c.put_next-halted.ensures.text
