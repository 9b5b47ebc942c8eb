use Rattle.std.proofs.Common.{◌≡◌, ◌≤◌, take}
use Rattle.std.specs.List.{count_by}
use Rattle.zcore_standard.specs.Windows.{begins_character}
use Rattle.machine_versions_steps.proofs.texts.count_characters.Given as goal

abbrev pub invariant-loop-byte : goal.invariant-loop-byte
invariant-loop-byte l = (l.count ≡ count_by begins_character (take l.byte-index l.text)) × (l.count ≤ l.byte-index)
