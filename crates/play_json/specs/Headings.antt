-- What a story of versions 1 to 3 tells of its player, as members of an object.
use Rattle.std.specs.Prelude.{codes}
use Rattle.serde_json.specs.Data.{number, unsigned, Members, put}
use Rattle.serde_json.specs.Find.{of_integer}
use Rattle.play_json.specs.declared.heading.Heading.{Heading}
use Rattle.play_json.specs.declared.heading.Heading.TheVariants.{Nothing, Score, Time}

abbrev pub with_heading : Heading → Members → Members
with_heading Nothing members = members
with_heading (Score location score moves) members =
    put (codes "moves") (number (unsigned moves))
    (put (codes "score") (number (of_integer score))
    (put (codes "location") (number (unsigned location)) members))
with_heading (Time location hours minutes) members =
    put (codes "minutes") (number (unsigned minutes))
    (put (codes "hours") (number (unsigned hours))
    (put (codes "location") (number (unsigned location)) members))
