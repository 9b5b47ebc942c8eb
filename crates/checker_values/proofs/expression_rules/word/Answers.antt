use Rattle.std.proofs.Common.{ap, ◌∙◌}
use Rattle.meaning.specs.Resolved as values
use Rattle.checker_values.specs.Scope.{number_at}
use Rattle.checker_values.proofs.Walks.{made_number, kept_value}
use Rattle.checker_values.proofs.expression_rules.word.Goals as goal

pub returns : goal.returns
returns c = kept_value c.in_box.result _ c.in_box.ensures
    (made_number c.number.result ∙ ap values.number
    (c.number.ensures ∙ ap (number_at c.args.scope.now.file.now.numbers) c.key_of_word.ensures))
