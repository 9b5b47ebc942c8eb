use Rattle.machine_standard_saves.proofs.Growing.{grew_none}
use Rattle.std.proofs.Common.{Err}
use Rattle.machine_frames.proofs.Steps.{told_err, told_no_further, told_went}
use Rattle.machine_standard_saves.proofs.GivenFiles.{fails_first, misnamed, saves, saves_not}
use Rattle.machine_standard_saves.proofs.answers.answer_saved.Goals as goal

pub returns-then-number-eq-NO_NAME-clause-told : goal.returns-then-number-eq-NO_NAME-clause-told
returns-then-number-eq-NO_NAME-clause-told c =
    misnamed c.refuse.result c.args.request.form c.args.request.place c.args.request.fuel c.args.number _
    c.if-number-eq-NO_NAME.true c.reason.ensures.reason c.refuse.ensures.told

pub returns-in_err-test_success-clause-told : goal.returns-in_err-test_success-clause-told
returns-in_err-test_success-clause-told c =
    fails_first _ c.args.request.form c.args.request.place c.args.request.fuel c.args.number
    c.if-number-eq-NO_NAME.false (told_err _ c.from_residual.ensures.1
    (told_no_further _ (told_went (Err _) _ c.in_err-test_success.ensures)))

pub returns-then-number-eq-DONE-clause-told : goal.returns-then-number-eq-DONE-clause-told
returns-then-number-eq-DONE-clause-told c =
    saves c.give_answer.result c.args.request.form c.args.request.place c.args.request.fuel c.args.number
    c.if-number-eq-NO_NAME.false c.if-number-eq-DONE.true c.in_ok-test_success.ensures c.give_answer.ensures

pub returns-clause-told : goal.returns-clause-told
returns-clause-told c =
    saves_not c.refuse-2.result c.args.request.form c.args.request.place c.args.request.fuel c.args.number _
    c.if-number-eq-NO_NAME.false c.if-number-eq-DONE.false c.reason-2.ensures.reason c.in_ok-test_success.ensures
    c.refuse-2.ensures.told

pub returns-in_err-test_success-clause-text : goal.returns-in_err-test_success-clause-text
returns-in_err-test_success-clause-text c = grew_none _ _

pub returns-then-number-eq-DONE-clause-text : goal.returns-then-number-eq-DONE-clause-text
returns-then-number-eq-DONE-clause-text c = grew_none _ _
