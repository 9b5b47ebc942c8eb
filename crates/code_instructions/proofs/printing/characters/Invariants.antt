use Rattle.std.proofs.Common.{◌≡◌, ◌++◌, drop}
use Rattle.std.specs.Prelude.{map}
use Rattle.std.specs.List.{filter}
use Rattle.ztext.specs.Alphabets.{is_printable}
use Rattle.meaning.specs.Places.{machine_character}
use Rattle.code_instructions.proofs.printing.characters.Given as goal

abbrev pub invariant-loop-byte : goal.invariant-loop-byte
invariant-loop-byte l = l.characters.items ++ filter is_printable (map machine_character (drop l.byte-index l.text))
    ≡ filter is_printable (map machine_character l.text)
