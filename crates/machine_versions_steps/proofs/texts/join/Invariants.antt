use Rattle.std.proofs.Common.{◌≡◌, ◌++◌, take, drop}
use Rattle.zcore_versions.specs.StatusLine.{on_one_line}
use Rattle.machine_versions_steps.proofs.texts.join.Given as goal

abbrev pub invariant-loop-i : goal.invariant-loop-i
invariant-loop-i l = record {
  so_far : l.bytes ≡ on_one_line (take l.i l.fn.bytes) ++ drop l.i l.fn.bytes;
}
