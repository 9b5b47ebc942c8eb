use Rattle.std.proofs.Common.{ℕ, List, sym, ap, ◌∙◌}
use Rattle.meaning.specs.declared.resolved.Value as code_value
use Rattle.meaning.specs.Resolved as values
use Rattle.meaning.specs.Resolved.{Value}
use Rattle.meaning.specs.Views.{value_of, propertied}
use Rattle.checker_values.specs.Expressions.{assigned}
use Rattle.checker_values.proofs.Walks.{made_property, made_assign_property}
use Rattle.checker_values.proofs.Forms.{last_assigned}
use Rattle.checker_values.proofs.expression_rules.assigned_property.Goals as goal

pub returns-in_ok-before-in-Some : goal.returns-in_ok-before-in-Some
returns-in_ok-before-in-Some c =
    let own = value_of c.args.object.value in
    let right = value_of c.args.right.value in
    let last = c.in-Some.last in
    made_assign_property c.in_ok-before-in-Some.before last c.args.right
    ∙ ap (λ (v : code_value.Value). values.assign_property (value_of v) last right) c.in_ok-before-in-Some.ensures.ok
    ∙ ap (λ (v : Value). values.assign_property v last right)
    (made_property c.args.object c.args.first c.pop.new.self)
    ∙ sym (last_assigned own c.args.first c.pop.new.self.items last right)
    ∙ ap (λ (ns : List ℕ). assigned (propertied (values.property own c.args.first) ns) right)
    (sym c.in-Some.ensures.items)
