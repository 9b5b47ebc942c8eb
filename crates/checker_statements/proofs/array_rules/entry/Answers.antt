use Rattle.std.proofs.Common.{ap, ◌∙◌}
use Rattle.syntax_statements.specs.PartViews.{literal_tree}
use Rattle.checker_values.specs.declared.known.Known.{Known}
use Rattle.checker_values.specs.Keys.{or_zero}
use Rattle.checker_values.specs.Names.{literal_known}
use Rattle.checker_values.specs.Noted.{noted}
use Rattle.checker_values.proofs.Noted.{noted_two}
use Rattle.checker_values.specs.Literals.{literal_breaches}
use Rattle.checker_statements.specs.Arrays.{wide_breaches}
use Rattle.checker_statements.proofs.array_rules.entry.Goals as goal

pub returns-clause-breaches : goal.returns-clause-breaches
returns-clause-breaches c =
    let whole = c.args.file.now.table.entries in
    let tree = literal_tree c.args.value.now.value in
    noted_two c.args.tally.now c.literal.new.tally c.wide_rule.new.tally (literal_breaches whole tree)
    (wide_breaches c.args.value.now.position c.args.width (or_zero (literal_known whole tree)))
    c.literal.ensures.breaches
    (c.wide_rule.ensures
    ∙ ap (λ (n : Known). noted c.literal.new.tally (wide_breaches c.args.value.now.position c.args.width n))
    (c.or_zero-known.ensures ∙ ap or_zero c.literal.ensures.value))
