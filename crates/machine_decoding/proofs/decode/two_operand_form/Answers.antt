use Rattle.std.proofs.Common.{◌∙◌, sym}
use Rattle.machine_decoding.proofs.Decoding.{seen_err, found_two, unknown_two, variable_wrong, variable_read}
use Rattle.machine_decoding.proofs.decode.two_operand_form.Goals as goal

pub returns-in_default-clause-instruction : goal.returns-in_default-clause-instruction
returns-in_default-clause-instruction c = unknown_two c.args.story.now c.args.first c.args.at c.requires.two
    (sym c.in_default.is ∙ c.two_operand.ensures.same)

pub returns-in_err-count-clause-instruction : goal.returns-in_err-count-clause-instruction
returns-in_err-count-clause-instruction c =
    seen_err _ _ _ _ c.from_residual.ensures.1
    (variable_wrong c.args.story.now c.args.first c.args.at _ _
    (found_two _ _ c.requires.two c.in-Some.ensures.same) c.in_err-count.ensures.operands)

pub returns-in_err-ending-clause-instruction : goal.returns-in_err-ending-clause-instruction
returns-in_err-ending-clause-instruction c =
    seen_err _ _ _ _ c.from_residual-in_err-ending.ensures.1
    (c.in_err-ending.ensures.ending _ ∙ variable_read c.args.story.now c.args.first c.args.at _ _ _
    (found_two _ _ c.requires.two c.in-Some.ensures.same) c.in_ok-count.ensures.operands)

pub returns-clause-instruction : goal.returns-clause-instruction
returns-clause-instruction c =
    c.in_ok-ending.ensures.ending _ ∙ variable_read c.args.story.now c.args.first c.args.at _ _ _
    (found_two _ _ c.requires.two c.in-Some.ensures.same) c.in_ok-count.ensures.operands
