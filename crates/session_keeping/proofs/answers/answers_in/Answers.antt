use Rattle.std.proofs.Common.{◌∙◌, ◌∷◌, ap}
use Rattle.session_keeping.specs.Answers.{and_then, answers_of, told}
use Rattle.session_keeping.specs.Kept.{kept_lines}
use Rattle.session_keeping.proofs.Answering.{fault_read}
use Rattle.session_keeping.proofs.answers.answers_in.Goals as goal

pub returns-in-Err-clause-err : goal.returns-in-Err-clause-err
returns-in-Err-clause-err c =
    let answers = told c.loop-line.answers.items in
    let typed = c.loop-line.typed in
    fault_read _ answers (answers_of typed (c.in-Some.line.now ∷ kept_lines c.in-Some.rest.now)) c.in-Err.fault
    (c.loop-line.invariant.read ∙ ap (λ lines. and_then answers (answers_of typed lines)) c.in-Some.ensures.1)
    (c.in-Err.ensures.err (kept_lines c.in-Some.rest.now))
