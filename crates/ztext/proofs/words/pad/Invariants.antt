use Rattle.std.proofs.Common.{◌≡◌, ◌++◌}
use Rattle.std.specs.Prelude.{replicate}
use Rattle.ztext.proofs.words.pad.Given as goal

abbrev pub invariant-loop : goal.invariant-loop
invariant-loop l = l.characters.items ≡ l.fn.characters.items ++ replicate l.counter 5
