use Rattle.std.proofs.Common.{refl, ◌∙◌}
use Rattle.machine_decoding.proofs.Decoding.{seen_err, long_first, long_second, long_read}
use Rattle.machine_decoding.proofs.decode.long_form.Goals as goal

pub returns-in_err-x-clause-instruction : goal.returns-in_err-x-clause-instruction
returns-in_err-x-clause-instruction c =
    seen_err _ _ _ _ c.from_residual.ensures.1
    (long_first c.args.story.now c.args.first c.args.at _ _ c.in-Some.ensures.same c.in-Some.ensures.count
    c.in_err-x.ensures.byte)

pub returns-in_err-y-clause-instruction : goal.returns-in_err-y-clause-instruction
returns-in_err-y-clause-instruction c =
    seen_err _ _ _ _ c.from_residual-in_err-y.ensures.1
    (long_second c.args.story.now c.args.first c.args.at _ _ _ c.in-Some.ensures.same c.in-Some.ensures.count
    c.in_ok-x.ensures.byte c.in_err-y.ensures.byte)

pub returns-in_err-ending-clause-instruction : goal.returns-in_err-ending-clause-instruction
returns-in_err-ending-clause-instruction c =
    seen_err _ _ _ _ c.from_residual-in_err-ending.ensures.1
    (c.in_err-ending.ensures.ending _ ∙ long_read c.args.story.now c.args.first c.args.at _ _ _ _ _
    c.in-Some.ensures.same c.in-Some.ensures.count c.in_ok-x.ensures.byte c.in_ok-y.ensures.byte refl refl)

pub returns-clause-instruction : goal.returns-clause-instruction
returns-clause-instruction c =
    c.in_ok-ending.ensures.ending _ ∙ long_read c.args.story.now c.args.first c.args.at _ _ _ _ _
    c.in-Some.ensures.same c.in-Some.ensures.count c.in_ok-x.ensures.byte c.in_ok-y.ensures.byte
    c.byte_operand-x.ensures c.byte_operand-y.ensures
