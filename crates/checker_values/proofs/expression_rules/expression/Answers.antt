use Rattle.std.proofs.Common.{refl, sym, ap, ◌∙◌}
use Rattle.meaning.specs.Resolved as values
use Rattle.checker_values.specs.Scope.{number_at}
use Rattle.checker_values.proofs.Noted.{noted_none}
use Rattle.checker_values.proofs.Shapes.{is_constant, is_word, is_named, is_assign}
use Rattle.checker_values.proofs.Walks.{made_number}
use Rattle.checker_values.proofs.expression_rules.expression.Goals as goal

pub returns-in-Constant : goal.returns-in-Constant
returns-in-Constant c =
    rw (is_constant c.args.e.now c.in-Constant.number c.in-Constant.is, made_number c.in-Constant.number)
    (record { value = refl; breaches = sym (noted_none c.args.tally.now) })

pub returns-in-Named : goal.returns-in-Named
returns-in-Named c = rw (is_named c.args.e.now _ c.in-Named.is) c.named_value.ensures

pub returns-in-Word : goal.returns-in-Word
returns-in-Word c =
    rw (is_word c.args.e.now _ c.in-Word.is, made_number c.number.result)
    (record {
      value = ap values.number
          (c.number.ensures ∙ ap (number_at c.args.scope.now.file.now.numbers) c.key_of_word.ensures);
      breaches = sym (noted_none c.args.tally.now);
    })

pub returns-in-Assign : goal.returns-in-Assign
returns-in-Assign c =
    rw (is_assign _ _ _ _ c.in-Assign.is, ← c.deref-in-Assign.ensures, ← c.deref.ensures) c.assign.ensures
