use Rattle.std.proofs.Common.{◌≡◌, ◌++◌, drop}
use Rattle.std.specs.List.{flat_map}
use Rattle.story_file.specs.Layout as layout
use Rattle.story_file.proofs.words.put_words.Given as goal

abbrev pub invariant-loop-word : goal.invariant-loop-word
invariant-loop-word l = l.bytes.items ++ flat_map layout.word (drop l.word-index l.words) ≡ l.initial.bytes.items
    ++ flat_map layout.word l.words
