use Rattle.std.proofs.Common.{◌≡◌, ◌++◌, drop, map}
use Rattle.std.specs.List.{concat}
use Rattle.story_file.specs.Written.{bytes_in}
use Rattle.story_file.proofs.below.put_all.Given as goal

abbrev pub invariant-loop-text : goal.invariant-loop-text
invariant-loop-text l =
    l.bytes.items ++ concat (map bytes_in (drop l.text-index l.texts))
    ≡ l.initial.bytes.items ++ concat (map bytes_in l.texts)
