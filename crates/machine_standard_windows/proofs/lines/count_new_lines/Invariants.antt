use Rattle.std.proofs.Common.{◌≡◌, ◌≤◌, take}
use Rattle.std.specs.List.{count_by}
use Rattle.zcore_standard.specs.Windows.{is_new_line}
use Rattle.machine_standard_windows.proofs.lines.count_new_lines.Given as goal

abbrev pub invariant-loop-byte : goal.invariant-loop-byte
invariant-loop-byte l = (l.count ≡ count_by is_new_line (take l.byte-index l.text)) × (l.count ≤ l.byte-index)
