use Rattle.std.proofs.Common.{◌∙◌, Bool, ap, sym}
use Rattle.std.specs.Prelude.{if◌then◌else◌}
use Rattle.syntax_lexer.specs.Token.{Lexeme, sign}
use Rattle.derive_values.specs.declared.places.Form.TheVariants as forms
use Rattle.derive_values.specs.declared.places.Place.{Place}
use Rattle.derive_values.specs.declared.places.Place.TheVariants as places
use Rattle.derive_values.specs.Places as spec
use Rattle.derive_values.proofs.places.after_sign.Goals as goal

abbrev after_item : Bool → Lexeme → Place
after_item b t = if b then places.Rule else spec.place_within forms.Printing 0 t

-- src/places.rt: after a sign
pub returns-in-Statement-clause-value : goal.returns-in-Statement-clause-value
returns-in-Statement-clause-value c p =
    c.sign_within.ensures.value p ∙ ap (λ x. spec.place_after x (sign c.args.found p)) (sym c.in-Statement.is)

pub returns-then-is_opening-clause-value : goal.returns-then-is_opening-clause-value
returns-then-is_opening-clause-value c p =
    sym (ap (λ b. after_item b (sign c.args.found p)) (sym (c.is_opening.ensures p) ∙ c.if-is_opening.true))
    ∙ ap (λ x. spec.place_after x (sign c.args.found p)) (sym c.in-Item.is)

pub returns-else-is_opening-clause-value : goal.returns-else-is_opening-clause-value
returns-else-is_opening-clause-value c p =
    c.sign_within-else-is_opening.ensures.value p
    ∙ sym (ap (λ b. after_item b (sign c.args.found p)) (sym (c.is_opening.ensures p) ∙ c.if-is_opening.false))
    ∙ ap (λ x. spec.place_after x (sign c.args.found p)) (sym c.in-Item.is)

pub returns-in-Rule-clause-value : goal.returns-in-Rule-clause-value
returns-in-Rule-clause-value c p =
    c.sign_within-in-Rule.ensures.value p ∙ ap (λ x. spec.place_after x (sign c.args.found p)) (sym c.in-Rule.is)

pub returns-in-Within-clause-value : goal.returns-in-Within-clause-value
returns-in-Within-clause-value c p =
    c.sign_within-in-Within.ensures.value p ∙ ap (λ x. spec.place_after x (sign c.args.found p)) (sym c.in-Within.is)
