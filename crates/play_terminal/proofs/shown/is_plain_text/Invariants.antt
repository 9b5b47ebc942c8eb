use Rattle.std.proofs.Common.{◌≡◌, length}
use Rattle.play_terminal.specs.Shown.{is_plain_text}
use Rattle.play_terminal.proofs.shown.is_plain_text.Given as goal

-- what was looked at is plain
abbrev pub invariant-loop-text : goal.invariant-loop-text
invariant-loop-text l = is_plain_text l.fn.text ≡ is_plain_text l.text

abbrev pub decreases-loop-text : goal.decreases-loop-text
decreases-loop-text l = length l.text
