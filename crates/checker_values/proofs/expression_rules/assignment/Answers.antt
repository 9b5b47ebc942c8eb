use Rattle.std.proofs.Common.{sym, ap, ◌∙◌}
use Rattle.std.specs.Prelude.{map}
use Rattle.meaning.specs.declared.resolved.Variable.TheVariants as variables
use Rattle.meaning.specs.Resolved.{Value}
use Rattle.meaning.specs.Views.{value_of}
use Rattle.checker_values.specs.Expressions.{assigned}
use Rattle.checker_values.specs.Walk.{value_link}
use Rattle.checker_values.proofs.Walks.{made_chain, made_assign}
use Rattle.checker_values.proofs.Forms.{chain_assigned}
use Rattle.checker_values.proofs.expression_rules.assignment.Goals as goal

pub returns-in-Chain : goal.returns-in-Chain
returns-in-Chain c =
    let v = c.in-Chain in
    let right = value_of c.args.right.value in
    made_assign (variables.Local 0) c.args.right
    ∙ sym (chain_assigned v.field-1 (value_of v.field-0.value) (value_of v.field-2.value)
    (map value_link v.field-3.items) right)
    ∙ ap (λ (w : Value). assigned w right)
    (sym (ap value_of v.is ∙ made_chain v.field-0 v.field-1 v.field-2 v.field-3))
