use Rattle.std.proofs.Common.{◌≡◌, ◌++◌, length}
use Rattle.derive_tokens.proofs.putting.put_all.Given as goal

abbrev pub invariant-loop-rest : goal.invariant-loop-rest
invariant-loop-rest l = l.out.items ++ l.rest ≡ l.fn.out.items ++ l.pieces

abbrev pub decreases-loop-rest : goal.decreases-loop-rest
decreases-loop-rest l = length l.rest
