use Rattle.std.proofs.Common.{◌≡◌, ◌++◌, map, drop}
use Rattle.meaning.specs.Places.{machine_character}
use Rattle.story_file.proofs.objects.characters.Given as goal

abbrev pub invariant-loop-byte : goal.invariant-loop-byte
invariant-loop-byte l = l.characters.items ++ map machine_character (drop l.byte-index l.name)
    ≡ map machine_character l.name
