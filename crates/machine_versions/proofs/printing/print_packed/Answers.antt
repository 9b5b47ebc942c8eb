use Rattle.machine_versions.proofs.printing.print_packed.Goals as goal

pub returns-clause-told : goal.returns-clause-told
returns-clause-told c = rw c.scale.ensures.same at c.print_text.ensures.told
