use Rattle.machine_standard.proofs.turn.StandardMachine.turn_on.Goals as goal

pub open-requires-clause-opening : goal.open-requires-clause-opening
open-requires-clause-opening c = rw c.in-None.is at c.requires.ready

pub answer-requires-clause-waiting : goal.answer-requires-clause-waiting
answer-requires-clause-waiting c = rw c.in-Some.is at c.requires.ready

pub returns-in-None-clause-ends : goal.returns-in-None-clause-ends
returns-in-None-clause-ends c = rw c.in-None.is c.open.ensures.ends

pub returns-in-None-clause-drawing : goal.returns-in-None-clause-drawing
returns-in-None-clause-drawing c = rw c.in-None.is c.open.ensures.drawing

pub returns-in-Some-clause-ends : goal.returns-in-Some-clause-ends
returns-in-Some-clause-ends c = rw c.in-Some.is c.answer.ensures.ends

pub returns-in-Some-clause-drawing : goal.returns-in-Some-clause-drawing
returns-in-Some-clause-drawing c = rw c.in-Some.is c.answer.ensures.drawing

pub returns-in-None-clause-script : goal.returns-in-None-clause-script
returns-in-None-clause-script c = rw c.in-None.is c.open.ensures.script

pub returns-in-Some-clause-script : goal.returns-in-Some-clause-script
returns-in-Some-clause-script c = rw c.in-Some.is c.answer.ensures.script

pub returns-in-None-clause-styles : goal.returns-in-None-clause-styles
returns-in-None-clause-styles c = rw c.in-None.is c.open.ensures.styles

pub returns-in-Some-clause-styles : goal.returns-in-Some-clause-styles
returns-in-Some-clause-styles c = rw c.in-Some.is c.answer.ensures.styles
