use Rattle.std.proofs.Common.{Some, None, sym, ap, ◌∙◌}
use Rattle.syntax.specs.Views.{program_tree}
use Rattle.checker_values.specs.declared.noting.Tally.{Tally}
use Rattle.checker_values.proofs.Noted.{later_law, later_count}
use Rattle.checker.specs.Programs.{program_breaches}
use Rattle.checker.proofs.check_program.next_breach.Goals as goal

pub returns-in-None : goal.returns-in-None
returns-in-None c =
    later_law (program_breaches (program_tree c.args.program.now)) c.new-tally.result c.args.known None
    c.new-tally.ensures.after c.new-tally.ensures.found
    (ap (λ (l : Tally). l.found) (sym c.in_ok-resolve.ensures.breaches) ∙ c.in-None.is)

pub returns-in-Some : goal.returns-in-Some
returns-in-Some c =
    let rules = program_breaches (program_tree c.args.program.now) in
    let first = later_law rules c.new-tally.result c.args.known (Some c.in-Some.breach)
    c.new-tally.ensures.after c.new-tally.ensures.found
    (ap (λ (l : Tally). l.found) (sym c.in_ok-resolve.ensures.breaches) ∙ c.in-Some.is) in (
      first.0,
      first.1,
      ap (λ (l : Tally). l.count) c.in_ok-resolve.ensures.breaches
          ∙ later_count rules c.new-tally.result c.args.known c.new-tally.ensures.after c.new-tally.ensures.count,
    )
