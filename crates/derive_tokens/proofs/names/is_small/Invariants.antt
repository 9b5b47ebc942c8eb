use Rattle.std.proofs.Common.{◌≡◌, drop}
use Rattle.derive_tokens.specs.Names.{is_small}
use Rattle.derive_tokens.proofs.names.is_small.Given as goal

abbrev pub invariant-loop-byte : goal.invariant-loop-byte
invariant-loop-byte l = is_small (drop l.byte-index l.name) ≡ is_small l.name
