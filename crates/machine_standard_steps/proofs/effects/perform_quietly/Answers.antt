use Rattle.std.proofs.Common.{refl, inl, inr}
use Rattle.zcore_standard.specs.Performing.{perform_keeping}
use Rattle.machine_frames.proofs.Steps.{went_halt}
use Rattle.machine_standard_steps.proofs.effects.perform_quietly.Goals as goal

pub returns-in-Catch : goal.returns-in-Catch
unfolding perform_keeping
returns-in-Catch c = rw c.in-Catch.is c.catch.ensures

pub returns-in-Throw : goal.returns-in-Throw
unfolding perform_keeping
returns-in-Throw c = rw c.in-Throw.is c.throw.ensures

pub returns-in-ScanTable : goal.returns-in-ScanTable
unfolding perform_keeping
returns-in-ScanTable c = rw c.in-ScanTable.is c.scan.ensures

pub returns-in-Tokenise : goal.returns-in-Tokenise
unfolding perform_keeping
returns-in-Tokenise c = rw c.in-Tokenise.is c.cut_words.ensures

pub returns-in-EncodeText : goal.returns-in-EncodeText
unfolding perform_keeping
returns-in-EncodeText c = rw c.in-EncodeText.is c.encode_text.ensures

pub returns-in-CopyTable : goal.returns-in-CopyTable
unfolding perform_keeping
returns-in-CopyTable c = rw c.in-CopyTable.is c.copy_table.ensures

pub returns-in-SetWindow : goal.returns-in-SetWindow
unfolding perform_keeping
returns-in-SetWindow c = elim c.in-SetWindow.is [
  | inl e ↦ rw e (went_halt _ _ c.requires.store.sound (λ t. refl))
  | inr (inl e) ↦ rw e (went_halt _ _ c.requires.store.sound (λ t. refl))
  | inr (inr (inl e)) ↦ rw e (went_halt _ _ c.requires.store.sound (λ t. refl))
  | inr (inr (inr (inl e))) ↦ rw e (went_halt _ _ c.requires.store.sound (λ t. refl))
  | inr (inr (inr (inr (inl e)))) ↦ rw e (went_halt _ _ c.requires.store.sound (λ t. refl))
  | inr (inr (inr (inr (inr (inl e))))) ↦ rw e (went_halt _ _ c.requires.store.sound (λ t. refl))
  | inr (inr (inr (inr (inr (inr (inl e)))))) ↦ rw e (went_halt _ _ c.requires.store.sound (λ t. refl))
  | inr (inr (inr (inr (inr (inr (inr (inl e))))))) ↦ rw e (went_halt _ _ c.requires.store.sound (λ t. refl))
  | inr (inr (inr (inr (inr (inr (inr (inr (inl e)))))))) ↦ rw e (went_halt _ _ c.requires.store.sound (λ t. refl))
  | inr (inr (inr (inr (inr (inr (inr (inr (inr (inl e))))))))) ↦
      rw e (went_halt _ _ c.requires.store.sound (λ t. refl))
  | inr (inr (inr (inr (inr (inr (inr (inr (inr (inr (inl e)))))))))) ↦
      rw e (went_halt _ _ c.requires.store.sound (λ t. refl))
  | inr (inr (inr (inr (inr (inr (inr (inr (inr (inr (inr (inl e))))))))))) ↦
      rw e (went_halt _ _ c.requires.store.sound (λ t. refl))
  | inr (inr (inr (inr (inr (inr (inr (inr (inr (inr (inr (inr e))))))))))) ↦
      rw e (went_halt _ _ c.requires.store.sound (λ t. refl))
]

pub returns-in-GetCursor : goal.returns-in-GetCursor
unfolding perform_keeping
returns-in-GetCursor c = elim c.in-GetCursor.is [
  | inl e ↦ rw e (went_halt _ _ c.requires.store.sound (λ t. refl))
  | inr e ↦ rw e (went_halt _ _ c.requires.store.sound (λ t. refl))
]
