use Rattle.std.proofs.Common.{arith, sym, ◌∙◌, ap}
use Rattle.zcore_standard.specs.Operations.{profile_of}
use Rattle.survey.specs.Refusals.{is_refused, counted_at}
use Rattle.survey.proofs.Refusing.{past, extended, unknown, known}
use Rattle.survey.proofs.refusal.profile_refusal_at.Goals as goal

pub returns-then-story-at-clause-said : goal.returns-then-story-at-clause-said
returns-then-story-at-clause-said c = past c.args.story.now c.args.at (omega arith)

pub returns-then-first-clause-said : goal.returns-then-first-clause-said
returns-then-first-clause-said c = extended c.args.story.now c.args.at (omega arith) c.if-first.true

pub returns-in-None-clause-said : goal.returns-in-None-clause-said
returns-in-None-clause-said c = unknown c.args.story.now c.args.at (omega arith) c.if-first.false
    (sym c.in-None.is ∙ c.profile.ensures ∙ ap profile_of c.plain.ensures)

pub returns-in-Some-clause-said : goal.returns-in-Some-clause-said
returns-in-Some-clause-said c =
    c.operands_refusal.ensures.said
    ∙ ap (λ row. is_refused (counted_at c.args.story.now c.args.at row)) c.row.ensures
    ∙ sym (known c.args.story.now c.args.at _ (omega arith) c.if-first.false
    (sym c.in-Some.is ∙ c.profile.ensures ∙ ap profile_of c.plain.ensures))
