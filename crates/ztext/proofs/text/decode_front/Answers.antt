use Rattle.std.proofs.Common.{◌∙◌, ap, sym, subst}
use Rattle.std.proofs.lemmas.Result.{err_from_is_err_and}
use Rattle.ztext.specs.Text.{decoded}
use Rattle.ztext.specs.Faults.{FailsText}
use Rattle.ztext.specs.Fronts.{front_of, after_text}
use Rattle.ztext.proofs.Packing.{joined_none}
use Rattle.ztext.proofs.text.decode_front.Goals as goal

pub returns-in_err-after-clause-text : goal.returns-in_err-after-clause-text
returns-in_err-after-clause-text c =
    let read = decoded c.args.story.now c.args.at in
    let p = err_from_is_err_and c.from_residual.result c.from_residual.ensures.1 in
    rw (p.1, p.2)
    (subst (FailsText c.in_err-after.field-0.0)
    (ap (λ ts. front_of c.args.most (after_text ts read)) c.new-text.ensures.items
    ∙ ap (front_of c.args.most) (joined_none read)) c.in_err-after.ensures.text)

pub returns-in_err-after-clause-cause : goal.returns-in_err-after-clause-cause
returns-in_err-after-clause-cause c =
    let p = err_from_is_err_and c.from_residual.result c.from_residual.ensures.1 in
    rw (p.1, p.2) c.in_err-after.ensures.cause

pub returns-clause-text : goal.returns-clause-text
returns-clause-text c =
    let read = decoded c.args.story.now c.args.at in
    sym (ap (λ ts. front_of c.args.most (after_text ts read)) c.new-text.ensures.items
    ∙ ap (front_of c.args.most) (joined_none read)) ∙ c.in_ok-after.ensures.text

pub returns-in_err-after-clause-printable : goal.returns-in_err-after-clause-printable
returns-in_err-after-clause-printable c = c.in_err-after.ensures.printable

pub returns-clause-printable : goal.returns-clause-printable
returns-clause-printable c = c.in_ok-after.ensures.printable
