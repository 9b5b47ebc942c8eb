use Rattle.std.proofs.Common.{sym, ◌∙◌}
use Rattle.checker.proofs.Abbreviated.{text_kept}
use Rattle.checker.proofs.abbreviation_rules.text_rule.Goals as goal

pub returns-else-has_text : goal.returns-else-has_text
returns-else-has_text c =
    text_kept c.args.tally.now c.args.before.now c.args.text c.if-before-ge-MOST_ABBREVIATIONS.false c.if-text-lt2.false
    (sym c.has_text.ensures ∙ c.if-has_text.false)
