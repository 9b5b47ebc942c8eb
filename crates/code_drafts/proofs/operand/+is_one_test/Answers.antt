use Rattle.std.proofs.Common.{List, map, ap, ◌∙◌}
use Rattle.std.specs.Prelude.{not, nat_lt}
use Rattle.syntax_trees.specs.declared.tree.Binary.{Binary}
use Rattle.meaning.specs.declared.resolved.Value as code_value
use Rattle.meaning.specs.Accepted.{count_of}
use Rattle.code_drafts.specs.Writing.{is_logical, last_operator, link_of, values_in}
use Rattle.code_drafts.proofs.Trees.{chain_tests, property_tests, equal_tests}
use Rattle.code_drafts.proofs.operand.+is_one_test.Goals as goal

pub returns-in-Chain : goal.returns-in-Chain
returns-in-Chain t c =
    chain_tests _ _ _ _ _ _ c.in-Chain.is (ap not (c.is_logical.ensures ∙ ap is_logical (c.last_operator.ensures
    ∙ ap (λ (ls : List (Binary × code_value.Value)). last_operator c.in-Chain.operator (map link_of ls))
    c.deref-in-Chain.ensures.value)))

pub returns-in-Property : goal.returns-in-Property
returns-in-Property t c = property_tests _ _ _ _ c.in-Property.is

pub returns-in-Equal : goal.returns-in-Equal
returns-in-Equal t c =
    equal_tests _ _ _ _ _ _ c.in-Equal.is
    (c.are_few.ensures
    ∙ ap (λ (es : List code_value.Value). nat_lt (count_of (values_in es)) 3) c.deref-in-Equal.ensures.value)
