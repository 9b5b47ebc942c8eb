use Rattle.std.proofs.Common.{◌≡◌, ◌++◌, ℕ, List, length, map, drop}
use Rattle.zcore.specs.Header.{scale_of}
use Rattle.story_file.specs.Layout.{parts_from}
use Rattle.story_file.specs.Written.{bytes_in}
use Rattle.story_file.proofs.high.put_texts.Given as goal

abbrev pub invariant-loop-text : goal.invariant-loop-text
invariant-loop-text l =
    (parts : List (List ℕ))
    → l.story.items ++ parts_from (scale_of l.version) (length l.story.items)
    (map bytes_in (drop l.text-index l.texts) ++ parts)
    ≡ l.initial.story.items ++ parts_from (scale_of l.version) (length l.initial.story.items)
    (map bytes_in l.texts ++ parts)
