use Rattle.std.proofs.Common.{sym}
use Rattle.zcore_versions.specs.Reading.{read_older}
use Rattle.machine_frames.proofs.Steps.{told_then, told_no_further, told_went, told_store}
use Rattle.machine_standard_windows.specs.TurnState.{place}
use Rattle.machine_standard_opcodes.proofs.Keeping.{told_within}
use Rattle.machine_versions_steps.proofs.Stepping.{told_err_seen, nowhere}
use Rattle.machine_versions_steps.proofs.reading.read_line.Goals as goal

pub returns-in_err-begin_read-clause-told : goal.returns-in_err-begin_read-clause-told
unfolding read_older
returns-in_err-begin_read-clause-told c version here = told_err_seen (place c.args.turn.now) _ c.from_residual.ensures.1
    (told_no_further _ (c.in_err-begin_read.ensures.told here))

pub wait_for_line-requires : goal.wait_for_line-requires
wait_for_line-requires c = told_store c.requires.store (c.in_ok-begin_read.ensures.told nowhere)

pub returns-clause-told : goal.returns-clause-told
unfolding read_older
returns-clause-told c version here = told_then _ (c.in_ok-begin_read.ensures.told here)
    (told_within c.wait_for_line.result (place c.args.turn.now here) _
    (told_went _ _ (rw (c.value_of-letters.ensures, c.value_of-words.ensures) at c.wait_for_line.ensures)))
