use Rattle.syntax.proofs.Placing.{unfit_as, deep_less}
use Rattle.syntax.proofs.Main.{unplaced_numbers}
use Rattle.syntax.proofs.program.parse.Goals as goal

pub returns-in-Err-clause-place : goal.returns-in-Err-clause-place
returns-in-Err-clause-place c = λ ten once. unfit_as (c.in-Err.ensures.place ten once) (λ p at. at.0)

pub returns-in-Err-clause-numbers : goal.returns-in-Err-clause-numbers
returns-in-Err-clause-numbers c = unplaced_numbers c.in-Err.placed c.in-Err.ensures.numbers

pub returns-in-Err-clause-deep_place : goal.returns-in-Err-clause-deep_place
returns-in-Err-clause-deep_place c = λ five. deep_less (c.in-Err.ensures.deep_place five) (λ p at. at.0)
