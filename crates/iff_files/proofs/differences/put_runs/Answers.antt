use Rattle.std.proofs.Common.{◌%◌, ◌∙◌}
use Rattle.iff_files.specs.Differences.{short_run, with_equal}
use Rattle.iff_files.proofs.differences.put_runs.Goals as goal

pub returns : goal.returns
unfolding with_equal
returns c = λ rest. c.in_ok-put_short_run.ensures rest
    ∙ c.in_ok-put_full_runs.ensures (short_run (c.args.equal % 256) rest)
