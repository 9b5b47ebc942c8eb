use Rattle.std.proofs.Common.{◌≡◌, ◌≤◌, ◌+◌, ◌++◌, length}
use Rattle.derive_joined.specs.Joined.{joined, joined_from}
use Rattle.derive_joined.specs.Joiners.{state_of}
use Rattle.derive_joined.proofs.source.joined.Given as goal

abbrev pub invariant-loop-rest : goal.invariant-loop-rest
invariant-loop-rest l = record {
  ends : l.joiner.ends + length l.rest ≤ length l.source;
  joins : l.joiner.text.items ++ joined_from (state_of l.joiner) l.rest ≡ joined l.source;
}

abbrev pub decreases-loop-rest : goal.decreases-loop-rest
decreases-loop-rest l = length l.rest
