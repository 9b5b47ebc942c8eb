use Rattle.std.proofs.Common.{◌≡◌, ◌∙◌, ap, sym, subst, arith, refl, Some}
use Rattle.zcore_standard.specs.OlderOpcodes.{action_in}
use Rattle.zcore_standard.specs.Rows.{said_by, said_in}
use Rattle.survey.specs.Refusals.{SaysOfVersion}
use Rattle.survey.specs.declared.refusal.Refusal.TheVariants as refusals
use Rattle.survey.proofs.refusal.older_refusal_at.Goals as goal

pub returns-then-story-at : goal.returns-then-story-at
returns-then-story-at c = λ h. absurd (omega (arith, h))

pub returns-in-None : goal.returns-in-None
returns-in-None c = λ h.
    subst (λ x. SaysOfVersion c.args.story.now c.args.at x (Some refusals.Opcode))
    (ap said_in (sym c.in-None.is) ∙ c.row.ensures.said
    ∙ ap (λ o. said_by c.args.version (action_in c.args.version o)) c.of_bytes.ensures) refl

pub returns-in-Some : goal.returns-in-Some
returns-in-Some c = λ h.
    subst (λ x. SaysOfVersion c.args.story.now c.args.at x c.operands_refusal.result)
    (ap said_in (sym c.in-Some.is) ∙ c.row.ensures.said
    ∙ ap (λ o. said_by c.args.version (action_in c.args.version o)) c.of_bytes.ensures) c.operands_refusal.ensures.said
