use Rattle.std.proofs.Common.{sym, ◌∙◌}
use Rattle.iff_files.proofs.ReadFrames.{some_stacks}
use Rattle.iff_files.proofs.stacks.are_stacks.Goals as goal

pub returns : goal.returns
returns c = c.are_frames.ensures
    ∙ sym (some_stacks c.args.size c.args.bytes.now (sym c.starts_with.ensures.value ∙ c.if-not-starts_with.false))
