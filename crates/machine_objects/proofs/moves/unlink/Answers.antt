use Rattle.std.proofs.Common.{refl}
use Rattle.machine_frames.proofs.Steps.{went_then, went_no_further, went_err, went_still, went_store}
use Rattle.zcore.specs.Objects.{unlink}
use Rattle.machine_objects.proofs.moves.unlink.Goals as goal

pub returns-in_err-sibling-in-Some : goal.returns-in_err-sibling-in-Some
unfolding unlink
returns-in_err-sibling-in-Some c = rw c.in-Some.is
    (went_err _ c.from_residual.ensures.1 (went_no_further _ c.in_err-sibling-in-Some.ensures))

pub returns-in_err-write_word-in-Some : goal.returns-in_err-write_word-in-Some
unfolding unlink
returns-in_err-write_word-in-Some c =
    rw c.in-Some.is
    (went_err _ c.from_residual-in_err-write_word-in-Some.ensures.1
    (went_then _ c.in_ok-sibling-in-Some.ensures (went_no_further _ c.in_err-write_word-in-Some.ensures)))

pub returns-in_err-write_link-in-Some : goal.returns-in_err-write_link-in-Some
unfolding unlink
returns-in_err-write_link-in-Some c =
    rw c.in-Some.is
    (went_err _ c.from_residual-in_err-write_link-in-Some.ensures.1
    (went_then _ c.in_ok-sibling-in-Some.ensures
    (went_then _ c.in_ok-write_word-in-Some.ensures (went_no_further _ c.in_err-write_link-in-Some.ensures))))

pub returns-in_ok-write_link-in-Some : goal.returns-in_ok-write_link-in-Some
unfolding unlink
returns-in_ok-write_link-in-Some c =
    rw c.in-Some.is
    (went_then _ c.in_ok-sibling-in-Some.ensures
    (went_then _ c.in_ok-write_word-in-Some.ensures
    (went_then _ c.in_ok-write_link-in-Some.ensures c.write_link-in-Some.ensures)))

pub returns-in-None : goal.returns-in-None
unfolding unlink
returns-in-None c = rw c.in-None.is (went_still _ _ c.requires.store.sound (λ t. refl))

pub write_link-requires-clause-store : goal.write_link-requires-clause-store
write_link-requires-clause-store c = went_store c.requires.store c.in_ok-write_word-in-Some.ensures

pub write_link-requires-in-Some-clause-store : goal.write_link-requires-in-Some-clause-store
write_link-requires-in-Some-clause-store c = went_store
    (went_store c.requires.store c.in_ok-write_word-in-Some.ensures) c.in_ok-write_link-in-Some.ensures
