use Rattle.std.proofs.Common.{◌≡◌, ◌++◌, map, drop}
use Rattle.derive_tokens.specs.Pieces.{quoted_byte}
use Rattle.derive_addresses.proofs.words.bytes_in_word.Given as goal

abbrev pub invariant-loop-byte : goal.invariant-loop-byte
invariant-loop-byte l = l.word.items ++ map quoted_byte (drop l.byte-index l.bytes) ≡ map quoted_byte l.bytes
