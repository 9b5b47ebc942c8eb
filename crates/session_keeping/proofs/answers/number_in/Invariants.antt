use Rattle.std.proofs.Common.{◌≡◌, Some, drop}
use Rattle.session_keeping.specs.Answers.{digits_after, number_of}
use Rattle.session_keeping.proofs.answers.number_in.Given as goal

-- what is still to be read goes on with the number
abbrev pub invariant-loop-byte : goal.invariant-loop-byte
invariant-loop-byte l = number_of l.text ≡ digits_after (Some l.number) (drop l.byte-index l.text)
