use Rattle.std.proofs.Common.{◌≡◌, false, drop}
use Rattle.derive_values.specs.Values.{are_word_bytes}
use Rattle.derive_values.proofs.values.are_word_bytes.Given as goal

abbrev pub invariant-loop-byte : goal.invariant-loop-byte
invariant-loop-byte l = are_word_bytes l.slash (drop l.byte-index l.text) ≡ are_word_bytes false l.text
