use Rattle.std.proofs.Common.{inl, inr, refl, sym}
use Rattle.zcore_versions.specs.Performing.{perform_older}
use Rattle.machine_frames.proofs.Steps.{went_halt}
use Rattle.machine_versions_steps.proofs.perform.perform_silent.Goals as goal

pub returns-in-Not : goal.returns-in-Not
unfolding perform_older
returns-in-Not c = λ loaded. rw (c.in-Not.is, sym c.value_of-word.ensures) c.give_result.ensures

pub returns-in-Pop : goal.returns-in-Pop
unfolding perform_older
returns-in-Pop c = λ loaded. rw c.in-Pop.is c.drop_word.ensures

pub returns-in-Save : goal.returns-in-Save
unfolding perform_older
returns-in-Save c = λ loaded. elim c.in-Save.is [
  | inl e ↦ rw e (went_halt _ _ c.requires.store.sound (λ x. refl))
  | inr (inl e) ↦ rw e (went_halt _ _ c.requires.store.sound (λ x. refl))
  | inr (inr e) ↦ rw e (went_halt _ _ c.requires.store.sound (λ x. refl))
]
