use Rattle.std.proofs.Common.{◌≡◌, ◌≤◌, ◌-◌, length, drop}
use Rattle.derive_joined.specs.Joiners.{state_of}
use Rattle.derive_joined.specs.Origin.{origin, origin_from}
use Rattle.derive_joined.proofs.source.origin.Given as goal

abbrev pub invariant-loop-at : goal.invariant-loop-at
invariant-loop-at l = record {
  within : l.at ≤ length l.source;
  ends : l.joiner.ends ≤ l.at;
  before : length l.joiner.text.items ≤ l.offset;
  rest : origin_from (state_of l.joiner) l.at (l.offset - length l.joiner.text.items) (drop l.at l.source)
      ≡ origin l.source l.offset;
}

abbrev pub decreases-loop-at : goal.decreases-loop-at
decreases-loop-at l = length l.source - l.at
