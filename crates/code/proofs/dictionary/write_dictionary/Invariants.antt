use Rattle.std.proofs.Common.{◌≡◌, ◌++◌, length, take}
use Rattle.std.specs.List.{flat_map}
use Rattle.tables.specs.Dictionary.{head_bytes, entry_bytes}
use Rattle.code.proofs.dictionary.write_dictionary.Given as goal

abbrev pub invariant-loop-key : goal.invariant-loop-key
invariant-loop-key l = l.bytes.items ≡ head_bytes (length l.keys) ++ flat_map entry_bytes (take l.key-index l.keys)
