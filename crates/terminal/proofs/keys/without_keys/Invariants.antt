use Rattle.std.proofs.Common.{◌≡◌, ◌++◌, drop}
use Rattle.terminal.specs.Keys.{without_keys, without_keys_from}
use Rattle.terminal.proofs.keys.without_keys.Given as goal

abbrev pub invariant-loop-byte : goal.invariant-loop-byte
invariant-loop-byte l = record {
  so_far : l.text.items ++ without_keys_from l.reading (drop l.byte-index l.typed) ≡ without_keys l.typed;
}
