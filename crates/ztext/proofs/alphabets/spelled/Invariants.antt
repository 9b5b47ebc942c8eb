use Rattle.std.proofs.Common.{◌≡◌, take}
use Rattle.ztext.specs.Alphabets.{spelled}
use Rattle.ztext.proofs.alphabets.spelled.Given as goal

abbrev pub invariant-loop-c : goal.invariant-loop-c
invariant-loop-c l = l.characters.items ≡ spelled (take l.c-index l.text)
