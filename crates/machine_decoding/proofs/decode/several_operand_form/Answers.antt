use Rattle.std.proofs.Common.{arith, ◌∙◌, sym}
use Rattle.machine_decoding.proofs.Decoding.{seen_err, found_several, unknown_several, variable_wrong, variable_read}
use Rattle.machine_decoding.proofs.FirstBytes.{some_operand}
use Rattle.machine_decoding.proofs.decode.several_operand_form.Goals as goal

pub returns-in_default-clause-instruction : goal.returns-in_default-clause-instruction
returns-in_default-clause-instruction c = unknown_several c.args.story.now c.args.first c.args.at c.requires.several
    (sym c.in_default.is ∙ c.several_operand.ensures.same)

pub returns-in_err-count-clause-instruction : goal.returns-in_err-count-clause-instruction
returns-in_err-count-clause-instruction c =
    seen_err _ _ _ _ c.from_residual.ensures.1
    (variable_wrong c.args.story.now c.args.first c.args.at _ _
    (found_several _ _ c.requires.several c.in-Some.ensures.same) c.in_err-count.ensures.operands)

pub returns-in_err-ending-clause-instruction : goal.returns-in_err-ending-clause-instruction
returns-in_err-ending-clause-instruction c =
    seen_err _ _ _ _ c.from_residual-in_err-ending.ensures.1
    (c.in_err-ending.ensures.ending _ ∙ variable_read c.args.story.now c.args.first c.args.at _ _ _
    (found_several _ _ c.requires.several c.in-Some.ensures.same) c.in_ok-count.ensures.operands)

pub returns-clause-instruction : goal.returns-clause-instruction
returns-clause-instruction c =
    c.in_ok-ending.ensures.ending _ ∙ variable_read c.args.story.now c.args.first c.args.at _ _ _
    (found_several _ _ c.requires.several c.in-Some.ensures.same) c.in_ok-count.ensures.operands

pub returns-clause-some : goal.returns-clause-some
returns-clause-some c = let most = some_operand _ c.in-Some.ensures.count in
    omega (arith, most, c.in_ok-count.ensures.enough)
