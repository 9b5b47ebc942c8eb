use Rattle.std.proofs.Common.{refl}
use Rattle.zcore_standard.specs.Screen.{get_cursor}
use Rattle.machine_frames.proofs.Steps.{went_then, went_no_further, went_err, went_sound, went_store, went_still}
use Rattle.machine_standard_opcodes.proofs.screen.get_cursor.Goals as goal

pub returns-in_err-test_words : goal.returns-in_err-test_words
unfolding get_cursor
returns-in_err-test_words c = went_err _ c.from_residual.ensures.1 (went_no_further _ c.in_err-test_words.ensures.went)

pub returns-in_err-write_word : goal.returns-in_err-write_word
unfolding get_cursor
returns-in_err-write_word c = went_err _ c.from_residual-in_err-write_word.ensures.1
    (went_then _ c.in_ok-test_words.ensures.went (went_no_further _ c.in_err-write_word.ensures))

pub write_word-requires-2-clause-store : goal.write_word-requires-2-clause-store
write_word-requires-2-clause-store c = went_store c.requires c.in_ok-write_word.ensures

pub returns-in_err-write_word-2 : goal.returns-in_err-write_word-2
unfolding get_cursor
returns-in_err-write_word-2 c = went_err _ c.from_residual-in_err-write_word-2.ensures.1
    (went_then _ c.in_ok-test_words.ensures.went
    (went_then _ c.in_ok-write_word.ensures (went_no_further _ c.in_err-write_word-2.ensures)))

pub returns : goal.returns
unfolding get_cursor
returns c = went_then _ c.in_ok-test_words.ensures.went
    (went_then _ c.in_ok-write_word.ensures
    (went_then _ c.in_ok-write_word-2.ensures
    (went_still _ _ (went_sound c.in_ok-write_word-2.ensures) (λ t. refl))))
