use Rattle.std.proofs.Common.{◌≡◌, ◌++◌, take, drop}
use Rattle.session_keeping.specs.Answers.{after_space, before_space}
use Rattle.session_keeping.proofs.answers.cut_text.Given as goal

-- no space was found yet
abbrev pub invariant-loop-at : goal.invariant-loop-at
invariant-loop-at l = record {
  before : before_space l.text ≡ take l.at l.text ++ before_space (drop l.at l.text);
  after : after_space l.text ≡ after_space (drop l.at l.text);
}
