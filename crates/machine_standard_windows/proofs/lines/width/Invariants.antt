use Rattle.std.proofs.Common.{◌≡◌, ◌-◌, ◌≤◌, length, drop}
use Rattle.std.specs.List.{count_by}
use Rattle.zcore_standard.specs.Windows.{begins_character}
use Rattle.machine_standard_windows.proofs.TextLines.{IsPassed, is_in_line}
use Rattle.machine_standard_windows.proofs.lines.width.Given as goal

abbrev pub invariant-loop-begin : goal.invariant-loop-begin
invariant-loop-begin l = record {
  line : IsPassed is_in_line l.text l.begin;
  count : l.count ≡ count_by begins_character (drop l.begin l.text);
  few : l.count ≤ length l.text - l.begin;
}

abbrev pub decreases-loop-begin : goal.decreases-loop-begin
decreases-loop-begin l = l.begin
