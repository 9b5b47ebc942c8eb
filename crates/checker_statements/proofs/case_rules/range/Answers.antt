use Rattle.std.proofs.Common.{ℕ, ap, ◌∙◌}
use Rattle.std.specs.Option.{option_map}
use Rattle.syntax_statements.specs.PartViews.{literal_tree, boxed_literal}
use Rattle.meaning.specs.Resolved.{RangeOf}
use Rattle.checker_values.specs.Scope.{seen_in}
use Rattle.checker_values.proofs.Walks.{two, walked}
use Rattle.checker_statements.specs.Statements.{range_to}
use Rattle.checker_statements.proofs.case_rules.range.Goals as goal

pub returns : goal.returns
returns c =
    let high = option_map boxed_literal c.args.range.now.high in
    two (λ (low : ℕ) (found : RangeOf). found)
    (walked c.case_value-low.ensures.value c.case_value-low.ensures.breaches)
    (walked
    (c.span.ensures.value
    ∙ ap (λ (low : ℕ). range_to (seen_in c.args.scope.now) low high) c.case_value-low.ensures.value)
    c.span.ensures.breaches)
