use Rattle.std.proofs.Common.{◌∙◌, ap, sym}
use Rattle.syntax_lexer.specs.Token.{reserved}
use Rattle.derive_values.specs.Places as spec
use Rattle.derive_values.proofs.places.after_word.Goals as goal

-- src/places.rt: after a reserved word
pub returns-in-Statement-clause-value : goal.returns-in-Statement-clause-value
returns-in-Statement-clause-value c p =
    c.word_begun.ensures.value p ∙ ap (λ x. spec.place_after x (reserved c.args.found p)) (sym c.in-Statement.is)

pub returns-in-Item-clause-value : goal.returns-in-Item-clause-value
returns-in-Item-clause-value c p =
    c.word_within.ensures.value p ∙ ap (λ x. spec.place_after x (reserved c.args.found p)) (sym c.in-Item.is)

pub returns-in-Rule-clause-value : goal.returns-in-Rule-clause-value
returns-in-Rule-clause-value c p =
    c.word_within-in-Rule.ensures.value p ∙ ap (λ x. spec.place_after x (reserved c.args.found p)) (sym c.in-Rule.is)

pub returns-in-Within-clause-value : goal.returns-in-Within-clause-value
returns-in-Within-clause-value c p =
    c.word_within-in-Within.ensures.value p ∙ ap (λ x. spec.place_after x (reserved c.args.found p)) (sym c.in-Within.is)
