use Rattle.std.proofs.Common.{◌≡◌, length, map, take}
use Rattle.std.specs.List.{list_all}
use Rattle.meaning.specs.Views.{property_of}
use Rattle.code.specs.HeldProgram.{is_one_word}
use Rattle.code.specs.Written.{Narrows}
use Rattle.code.proofs.sizes.note_properties.Given as goal

abbrev pub invariant-loop-property : goal.invariant-loop-property
invariant-loop-property l =
    (length l.singles ≡ 64)
    × Narrows l.initial.singles l.singles (λ q. list_all (is_one_word q) (map property_of (take l.property-index l.properties)))
