use Rattle.machine_decoding.proofs.Decoding.{none_read}
use Rattle.machine_decoding.proofs.decode.no_operand_form.Goals as goal

pub returns-in-Some-clause-instruction : goal.returns-in-Some-clause-instruction
returns-in-Some-clause-instruction c = λ story at. none_read story c.args.first at _ c.requires
    c.in-Some.ensures.same c.in-Some.ensures.count
