use Rattle.std.proofs.Common.{◌≡◌, ◌++◌, drop, map}
use Rattle.ztext.specs.Text.{encoded}
use Rattle.story_file.specs.Written.{bytes_in}
use Rattle.story_file.proofs.below.z_texts.Given as goal

abbrev pub invariant-loop-abbreviation : goal.invariant-loop-abbreviation
invariant-loop-abbreviation l =
    map bytes_in l.texts.items ++ map encoded (map bytes_in (drop l.abbreviation-index l.abbreviations))
    ≡ map encoded (map bytes_in l.abbreviations)
