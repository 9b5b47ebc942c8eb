use Rattle.std.proofs.Common.{sym}
use Rattle.std.specs.Prelude.{map}
use Rattle.syntax_trees.specs.Views.{expression_tree, name_tree, link}
use Rattle.checker_values.proofs.Shapes.{is_chain, is_property}
use Rattle.checker_values.proofs.Forms.{chain_name, properties_name}
use Rattle.checker_values.proofs.expression_rules.+name_of.Goals as goal

pub returns-in-Chain : goal.returns-in-Chain
returns-in-Chain t c =
    let v = c.in-Chain in
    rw (is_chain c.args.e.now v.field-0 v.field-1 v.field-2 v.field-3 v.is)
    (sym (chain_name v.field-1 (expression_tree v.field-0.value) (expression_tree v.field-2.value)
    (map link v.field-3.items)))

pub returns-in-Property : goal.returns-in-Property
returns-in-Property t c =
    let v = c.in-Property in
    rw (is_property c.args.e.now v.field-0 v.field-1 v.field-2 v.is)
    (sym (properties_name (expression_tree v.field-0.value) (name_tree v.field-1.value) v.field-2.items))
