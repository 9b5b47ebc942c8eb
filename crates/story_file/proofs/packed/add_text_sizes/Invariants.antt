use Rattle.std.proofs.Common.{◌≡◌, ◌++◌, map, drop}
use Rattle.story_file.specs.Written.{encoded_length}
use Rattle.story_file.proofs.packed.add_text_sizes.Given as goal

abbrev pub invariant-loop-text : goal.invariant-loop-text
invariant-loop-text l = l.sizes.items ++ map encoded_length (drop l.text-index l.texts)
    ≡ l.initial.sizes.items ++ map encoded_length l.texts
