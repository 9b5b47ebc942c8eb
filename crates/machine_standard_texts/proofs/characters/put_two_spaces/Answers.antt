use Rattle.machine_standard_texts.proofs.Printed.{two_put, first_halted}
use Rattle.machine_standard_texts.proofs.characters.put_two_spaces.Goals as goal

pub returns-in-None-clause-prints : goal.returns-in-None-clause-prints
returns-in-None-clause-prints c = two_put _ c.in-None.ensures.prints c.put_whole-in-None.ensures.prints

pub returns-in-Some-clause-prints : goal.returns-in-Some-clause-prints
returns-in-Some-clause-prints c = first_halted _ c.in-Some.ensures.prints
