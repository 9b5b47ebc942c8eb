use Rattle.std.proofs.Common.{◌∙◌}
use Rattle.machine_decoding.proofs.Decoding.{seen_err, short_wrong, short_read}
use Rattle.machine_decoding.proofs.decode.short_form.Goals as goal

pub returns-in_err-x-clause-instruction : goal.returns-in_err-x-clause-instruction
returns-in_err-x-clause-instruction c =
    seen_err _ _ _ _ c.from_residual.ensures.1
    (short_wrong c.args.story.now c.args.first c.args.at _ _ c.requires.given c.in-Some.ensures.same
    c.in-Some.ensures.count c.in_err-x.ensures.operand)

pub returns-in_err-ending-clause-instruction : goal.returns-in_err-ending-clause-instruction
returns-in_err-ending-clause-instruction c =
    seen_err _ _ _ _ c.from_residual-in_err-ending.ensures.1
    (c.in_err-ending.ensures.ending _ ∙ short_read c.args.story.now c.args.first c.args.at _ _ _ c.requires.given
    c.in-Some.ensures.same c.in-Some.ensures.count c.in_ok-x.ensures.operand)

pub returns-clause-instruction : goal.returns-clause-instruction
returns-clause-instruction c =
    c.in_ok-ending.ensures.ending _ ∙ short_read c.args.story.now c.args.first c.args.at _ _ _ c.requires.given
    c.in-Some.ensures.same c.in-Some.ensures.count c.in_ok-x.ensures.operand
