use Rattle.std.proofs.Common.{◌≡◌, ◌++◌, drop}
use Rattle.std.specs.Prelude.{map}
use Rattle.meaning.specs.Places.{machine_character}
use Rattle.checker.proofs.abbreviation_rules.characters.Given as goal

abbrev pub invariant-loop-byte : goal.invariant-loop-byte
invariant-loop-byte l = l.found.items ++ map machine_character (drop l.byte-index l.text) ≡ map machine_character l.text
