use Rattle.std.proofs.Common.{◌≡◌, ◌++◌, ℕ, List, length, map, drop}
use Rattle.zcore.specs.Header.{scale_of}
use Rattle.code_drafts.specs.Written.{addresses_of}
use Rattle.story_file.specs.Layout.{parts_from}
use Rattle.story_file.specs.Written.{code_part}
use Rattle.story_file.proofs.high.put_routines.Given as goal

abbrev pub invariant-loop-code : goal.invariant-loop-code
invariant-loop-code l =
    (parts : List (List ℕ))
    → l.story.items ++ parts_from (scale_of l.version) (length l.story.items)
    (map (code_part (addresses_of l.addresses)) (drop l.code-index l.codes) ++ parts)
    ≡ l.initial.story.items ++ parts_from (scale_of l.version) (length l.initial.story.items)
    (map (code_part (addresses_of l.addresses)) l.codes ++ parts)
