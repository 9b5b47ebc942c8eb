use Rattle.std.proofs.Common.{◌≡◌, ◌++◌, drop}
use Rattle.story_file.specs.Layout.{entries_bytes}
use Rattle.story_file.proofs.below.put_entries.Given as goal

abbrev pub invariant-loop-key : goal.invariant-loop-key
invariant-loop-key l = l.bytes.items ++ entries_bytes (drop l.key-index l.keys) ≡ l.initial.bytes.items
    ++ entries_bytes l.keys
