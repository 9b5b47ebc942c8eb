use Rattle.machine_frames.proofs.Steps.{went_then, went_no_further, went_err, went_store}
use Rattle.zcore_versions.specs.SmallObjects.{link_first}
use Rattle.machine_versions.proofs.moves.link_first.Goals as goal

pub returns-in_err-child : goal.returns-in_err-child
unfolding link_first
returns-in_err-child c = went_err _ c.from_residual.ensures.1 (went_no_further _ c.in_err-child.ensures)

pub returns-in_err-write_link : goal.returns-in_err-write_link
unfolding link_first
returns-in_err-write_link c = went_err _ c.from_residual-in_err-write_link.ensures.1
    (went_then _ c.in_ok-child.ensures (went_no_further _ c.in_err-write_link.ensures))

pub returns-in_err-write_link-2 : goal.returns-in_err-write_link-2
unfolding link_first
returns-in_err-write_link-2 c =
    went_err _ c.from_residual-in_err-write_link-2.ensures.1
    (went_then _ c.in_ok-child.ensures
    (went_then _ c.in_ok-write_link.ensures (went_no_further _ c.in_err-write_link-2.ensures)))

pub returns : goal.returns
unfolding link_first
returns c = went_then _ c.in_ok-child.ensures
    (went_then _ c.in_ok-write_link.ensures (went_then _ c.in_ok-write_link-2.ensures c.write_link-3.ensures))

pub write_link-requires-2 : goal.write_link-requires-2
write_link-requires-2 c = went_store c.requires.store c.in_ok-write_link.ensures

pub write_link-requires-3 : goal.write_link-requires-3
write_link-requires-3 c = went_store (went_store c.requires.store c.in_ok-write_link.ensures)
    c.in_ok-write_link-2.ensures
