use Rattle.std.proofs.Common.{refl}
use Rattle.machine_frames.proofs.Steps.{went_then, went_no_further, went_err, went_sound, went_still, went_store}
use Rattle.zcore_versions.specs.SmallObjects.{insert_object}
use Rattle.machine_versions.proofs.moves.insert_object.Goals as goal

pub returns-in_err-link : goal.returns-in_err-link
unfolding insert_object
returns-in_err-link c = went_err _ c.from_residual.ensures.1 (went_no_further _ c.in_err-link.ensures.tested)

pub returns-in_err-test_object : goal.returns-in_err-test_object
unfolding insert_object
returns-in_err-test_object c =
    went_err _ c.from_residual-in_err-test_object.ensures.1
    (went_then _ c.in_ok-link.ensures.tested (went_no_further _ c.in_err-test_object.ensures.tested))

pub returns-in_err-unlink : goal.returns-in_err-unlink
unfolding insert_object
returns-in_err-unlink c =
    went_err _ c.from_residual-in_err-unlink.ensures.1
    (went_then _ c.in_ok-link.ensures.tested
    (went_then _ c.in_ok-test_object.ensures.tested (went_no_further _ c.in_err-unlink.ensures)))

pub link_first-requires-clause-store : goal.link_first-requires-clause-store
link_first-requires-clause-store c = went_store c.requires c.in_ok-unlink.ensures

pub returns-in_err-link_first : goal.returns-in_err-link_first
unfolding insert_object
returns-in_err-link_first c =
    went_err _ c.from_residual-in_err-link_first.ensures.1
    (went_then _ c.in_ok-link.ensures.tested
    (went_then _ c.in_ok-test_object.ensures.tested
    (went_then _ c.in_ok-unlink.ensures (went_no_further _ c.in_err-link_first.ensures))))

pub returns : goal.returns
unfolding insert_object
returns c =
    went_then _ c.in_ok-link.ensures.tested
    (went_then _ c.in_ok-test_object.ensures.tested
    (went_then _ c.in_ok-unlink.ensures
    (went_then _ c.in_ok-link_first.ensures (went_still _ _ (went_sound c.in_ok-link_first.ensures) (λ t. refl)))))
