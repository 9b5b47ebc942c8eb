use Rattle.std.proofs.Common.{sym}
use Rattle.story_file.proofs.Laid.{beyond_end, found_at}
use Rattle.story_file.proofs.packed.reach_end.Goals as goal

pub returns-in_default : goal.returns-in_default
returns-in_default c =
    sym (beyond_end c.args.version c.loop-size.at _ c.args.sizes.now c.loop-size.size-index _ c.loop-size-test.true
    (sym (found_at c.args.sizes.now c.loop-size.size-index _ c.loop-size-test.true)) c.loop-size.invariant.0
    c.in_default.ensures)
