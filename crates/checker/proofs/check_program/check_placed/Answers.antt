use Rattle.std.proofs.Common.{Some, None, inr, refl, sym, ap, ◌∙◌}
use Rattle.syntax.specs.Views.{program_tree}
use Rattle.checker.specs.Programs.{program_breaches}
use Rattle.checker_values.specs.declared.noting.Tally.{Tally}
use Rattle.checker_values.proofs.Noted.{first_law}
use Rattle.checker.proofs.check_program.check_placed.Goals as goal

pub returns-in-None-clause-answers : goal.returns-in-None-clause-answers
returns-in-None-clause-answers c =
    let unbroken = first_law (program_breaches (program_tree c.args.program.now)) c.new-tally.result None
    c.new-tally.ensures.after c.new-tally.ensures.found
    (ap (λ (l : Tally). l.found) (sym c.in-Ok.ensures.breaches) ∙ c.in-None.is) in
    (unbroken, c.in-Ok.ensures.value unbroken)

pub returns-in-Ok-clause-answers : goal.returns-in-Ok-clause-answers
returns-in-Ok-clause-answers c =
    let l = first_law (program_breaches (program_tree c.args.program.now)) c.new-tally.result (Some c.in-Some.breach)
    c.new-tally.ensures.after c.new-tally.ensures.found
    (ap (λ (l : Tally). l.found) (sym c.in-Ok.ensures.breaches) ∙ c.in-Some.is) in
    inr (c.in-Some.breach, l.0, l.1, c.fault.ensures.number, c.fault.ensures.line)

pub returns-in-Ok-clause-stands : goal.returns-in-Ok-clause-stands
returns-in-Ok-clause-stands c =
    let l = first_law (program_breaches (program_tree c.args.program.now)) c.new-tally.result (Some c.in-Some.breach)
    c.new-tally.ensures.after c.new-tally.ensures.found
    (ap (λ (l : Tally). l.found) (sym c.in-Ok.ensures.breaches) ∙ c.in-Some.is) in
    inr (c.in-Some.breach, l.0, l.1, c.fault.ensures.number, c.fault.ensures.line, refl)
