use Rattle.std.proofs.Common.{◌≤◌, ◌-◌, length}
use Rattle.derive_joined.specs.declared.mode.Mode.TheVariants as m
use Rattle.derive_joined.specs.Joiners.{Stays, inside}
use Rattle.derive_joined.proofs.stretch.comment_length.Given as goal

abbrev pub invariant-loop-at : goal.invariant-loop-at
invariant-loop-at l = record {
  within : l.at ≤ length l.bytes;
  stays : Stays (inside m.Comment 0) l.bytes l.at;
}

abbrev pub decreases-loop-at : goal.decreases-loop-at
decreases-loop-at l = length l.bytes - l.at
