use Rattle.std.proofs.Common.{Ok, Err}
use Rattle.zcore_standard.specs.Saving.{pause, wait_for_name}
use Rattle.machine_frames.proofs.Steps.{told_no_further, told_sound, told_then, told_went}
use Rattle.machine_standard_opcodes.proofs.Keeping.{told_within}
use Rattle.machine_standard_windows.specs.TurnState.{place}
use Rattle.machine_standard_windows.proofs.TurnTexts.{keeps_after, keeps_begun, told_seen_err}
use Rattle.machine_standard_saves.proofs.pausing.pause.Goals as goal

pub returns-in_err-begin_read-clause-told : goal.returns-in_err-begin_read-clause-told
unfolding pause
returns-in_err-begin_read-clause-told c = λ here. told_seen_err (place c.args.turn.now) _ c.from_residual.ensures.1
    (told_no_further _ (c.in_err-begin_read.ensures.told here))

pub test_result-requires : goal.test_result-requires
test_result-requires c = told_sound (c.in_ok-begin_read.ensures.told (record { program_counter = 0; fuel = 0 }))

pub returns-in_err-test_result-clause-told : goal.returns-in_err-test_result-clause-told
unfolding pause
returns-in_err-test_result-clause-told c = λ here. told_seen_err (place c.args.turn.now) _
    c.from_residual-in_err-test_result.ensures.1 (told_then _ (c.in_ok-begin_read.ensures.told here)
    (told_no_further _ (told_went (Err _) _ c.in_err-test_result.ensures)))

pub put_prompt-requires-clause-sound : goal.put_prompt-requires-clause-sound
put_prompt-requires-clause-sound c = told_sound (c.in_ok-begin_read.ensures.told (record { program_counter = 0; fuel = 0 }))

pub put_prompt-requires-clause-text : goal.put_prompt-requires-clause-text
put_prompt-requires-clause-text c = keeps_begun c.begin_read.ensures.text

pub returns-in_err-put_prompt-clause-told : goal.returns-in_err-put_prompt-clause-told
unfolding pause wait_for_name
returns-in_err-put_prompt-clause-told c = λ here. told_seen_err (place c.args.turn.now) _
    c.from_residual-in_err-put_prompt.ensures.1 (told_then _ (c.in_ok-begin_read.ensures.told here)
    (told_then _ (told_went (Ok tt) _ c.in_ok-test_result.ensures)
    (told_within (Err _) (place c.args.turn.now here) (wait_for_name c.args.purpose c.args.at)
    (told_no_further _ c.in_err-put_prompt.ensures.told))))

pub returns-in_err-put_prompt-clause-text : goal.returns-in_err-put_prompt-clause-text
returns-in_err-put_prompt-clause-text c = keeps_after c.begin_read.ensures.text c.put_prompt.ensures.text

pub wait-requires : goal.wait-requires
wait-requires c = told_sound c.in_ok-put_prompt.ensures.told

pub returns-clause-told : goal.returns-clause-told
unfolding pause wait_for_name
returns-clause-told c = λ here. told_then _ (c.in_ok-begin_read.ensures.told here)
    (told_then _ (told_went (Ok tt) _ c.in_ok-test_result.ensures)
    (told_within c.wait.result (place c.args.turn.now here) (wait_for_name c.args.purpose c.args.at)
    (told_then _ c.in_ok-put_prompt.ensures.told (told_went c.wait.result _
    (rw c.number_of.ensures at c.wait.ensures)))))

pub returns-clause-text : goal.returns-clause-text
returns-clause-text c = keeps_after c.begin_read.ensures.text c.put_prompt.ensures.text
