use Rattle.std.proofs.Common.{refl}
use Rattle.machine_frames.proofs.Steps.{went_then, went_no_further, went_err, went_still, went_store}
use Rattle.zcore_versions.specs.SmallObjects.{unlink}
use Rattle.machine_versions.proofs.moves.unlink.Goals as goal

pub returns-in_err-sibling-in-Some : goal.returns-in_err-sibling-in-Some
unfolding unlink
returns-in_err-sibling-in-Some c = rw c.in-Some.is
    (went_err _ c.from_residual.ensures.1 (went_no_further _ c.in_err-sibling-in-Some.ensures))

pub returns-in_err-write_byte-in-Some : goal.returns-in_err-write_byte-in-Some
unfolding unlink
returns-in_err-write_byte-in-Some c =
    rw c.in-Some.is
    (went_err _ c.from_residual-in_err-write_byte-in-Some.ensures.1
    (went_then _ c.in_ok-sibling-in-Some.ensures (went_no_further _ c.in_err-write_byte-in-Some.ensures)))

pub returns-in_err-write_link-in-Some : goal.returns-in_err-write_link-in-Some
unfolding unlink
returns-in_err-write_link-in-Some c =
    rw c.in-Some.is
    (went_err _ c.from_residual-in_err-write_link-in-Some.ensures.1
    (went_then _ c.in_ok-sibling-in-Some.ensures
    (went_then _ c.in_ok-write_byte-in-Some.ensures (went_no_further _ c.in_err-write_link-in-Some.ensures))))

pub returns-in_ok-write_link-in-Some : goal.returns-in_ok-write_link-in-Some
unfolding unlink
returns-in_ok-write_link-in-Some c =
    rw c.in-Some.is
    (went_then _ c.in_ok-sibling-in-Some.ensures
    (went_then _ c.in_ok-write_byte-in-Some.ensures
    (went_then _ c.in_ok-write_link-in-Some.ensures c.write_link-in-Some.ensures)))

pub returns-in-None : goal.returns-in-None
unfolding unlink
returns-in-None c = rw c.in-None.is (went_still _ _ c.requires.sound (λ t. refl))

pub write_link-requires : goal.write_link-requires
write_link-requires c = went_store c.requires c.in_ok-write_byte-in-Some.ensures

pub write_link-requires-in-Some : goal.write_link-requires-in-Some
write_link-requires-in-Some c = went_store
    (went_store c.requires c.in_ok-write_byte-in-Some.ensures) c.in_ok-write_link-in-Some.ensures
