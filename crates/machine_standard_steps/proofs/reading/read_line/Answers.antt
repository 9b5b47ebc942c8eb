use Rattle.zcore_standard.specs.Reading.{read_line}
use Rattle.machine_frames.proofs.Steps.{told_then, told_no_further, told_went, told_store}
use Rattle.machine_standard_windows.specs.TurnState.{place}
use Rattle.machine_standard_opcodes.proofs.Keeping.{told_within}
use Rattle.machine_standard_steps.proofs.Stepping.{told_err_seen, nowhere}
use Rattle.machine_standard_steps.proofs.reading.read_line.Goals as goal

pub returns-in_err-begin_read-clause-told : goal.returns-in_err-begin_read-clause-told
unfolding read_line
returns-in_err-begin_read-clause-told c here = told_err_seen (place c.args.turn.now) _ c.from_residual.ensures.1
    (told_no_further _ (c.in_err-begin_read.ensures.told here))

pub wait_for_line-requires : goal.wait_for_line-requires
wait_for_line-requires c = told_store c.requires.store (c.in_ok-begin_read.ensures.told nowhere)

pub returns-clause-told : goal.returns-clause-told
unfolding read_line
returns-clause-told c here = told_then _ (c.in_ok-begin_read.ensures.told here)
    (told_within c.wait_for_line.result (place c.args.turn.now here) _
    (told_went _ _ (rw c.value_or-parse_buffer.ensures at c.wait_for_line.ensures)))
