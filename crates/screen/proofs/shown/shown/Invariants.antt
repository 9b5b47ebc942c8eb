use Rattle.std.proofs.Common.{◌≡◌, ◌++◌, drop}
use Rattle.screen.specs.Shown.{shown_after}
use Rattle.screen.proofs.shown.shown.Given as goal

abbrev pub invariant-loop-byte : goal.invariant-loop-byte
invariant-loop-byte l = record {
  so_far : l.bytes.items ++ shown_after l.before (drop l.byte-index l.text) ≡ shown_after 0 l.text;
}
