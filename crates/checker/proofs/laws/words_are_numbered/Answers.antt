use Rattle.checker.proofs.Renumbered.{words_numbered}
use Rattle.checker.proofs.laws.words_are_numbered.Goals as goal

pub returns : goal.returns
returns c = words_numbered
