use Rattle.std.proofs.Common.{refl, Ok, Err}
use Rattle.zcore_standard.specs.SavedStates.{give_for}
use Rattle.machine_frames.proofs.Steps.{went_err, went_no_further, went_sound, went_still, went_then}
use Rattle.machine_opcodes.proofs.Saying.{went_says}
use Rattle.machine_standard_saves.proofs.keeping.give_for.Goals as goal

pub returns-in_err-test_result : goal.returns-in_err-test_result
unfolding give_for
returns-in_err-test_result c = went_err _ c.from_residual.ensures.1 (went_no_further _ c.in_err-test_result.ensures)

pub returns-in_err-fuel : goal.returns-in_err-fuel
unfolding give_for
returns-in_err-fuel c =
    went_err _ c.from_residual-in_err-fuel.ensures.1
    (went_then _ c.in_ok-test_result.ensures
    (went_no_further _ (went_says (Err _) c.args.store.now c.requires.sound c.in_err-fuel.ensures)))

pub returns-in_err-store_result : goal.returns-in_err-store_result
unfolding give_for
returns-in_err-store_result c =
    went_err _ c.from_residual-in_err-store_result.ensures.1
    (went_then _ c.in_ok-test_result.ensures
    (went_then _ (went_says (Ok _) c.args.store.now c.requires.sound c.in_ok-fuel.ensures)
    (went_no_further _ c.in_err-store_result.ensures)))

pub returns : goal.returns
unfolding give_for
returns c =
    went_then _ c.in_ok-test_result.ensures
    (went_then _ (went_says (Ok _) c.args.store.now c.requires.sound c.in_ok-fuel.ensures)
    (went_then _ c.in_ok-store_result.ensures
    (went_still _ _ (went_sound c.in_ok-store_result.ensures) (λ t. refl))))
