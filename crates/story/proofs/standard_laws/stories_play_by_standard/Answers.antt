use Rattle.story.proofs.Playing.{stories_play}
use Rattle.story.proofs.standard_laws.stories_play_by_standard.Goals as goal

pub returns : goal.returns
returns c = stories_play c.accepted_programs.ensures c.printable_programs.ensures c.printable_trees.ensures
    c.code_is_short.ensures c.stories_hold.ensures c.code_plays.ensures c.late_versions_are_standard.ensures
