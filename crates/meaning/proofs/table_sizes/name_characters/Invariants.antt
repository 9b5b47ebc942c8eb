use Rattle.std.proofs.Common.{◌≡◌, ◌≤◌, ◌+◌, ◌*◌, drop, length}
use Rattle.std.specs.Prelude.{map}
use Rattle.ztext.specs.Alphabets.{spelled}
use Rattle.meaning.specs.Places.{machine_character}
use Rattle.meaning.proofs.table_sizes.name_characters.Given as goal

abbrev pub invariant-loop-byte : goal.invariant-loop-byte
invariant-loop-byte l = record {
  sum : l.count + length (spelled (map machine_character (drop l.byte-index l.name)))
      ≡ length (spelled (map machine_character l.name));
  bound : l.count ≤ l.byte-index * 4;
}
