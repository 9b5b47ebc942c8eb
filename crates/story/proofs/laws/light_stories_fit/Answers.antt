use Rattle.story.proofs.Light as light
use Rattle.story.proofs.laws.light_stories_fit.Goals as goal

pub returns : goal.returns
returns c = light.light_stories_fit c.accepted_programs.ensures c.code_is_short.ensures c.one_outcome.ensures
    c.one_tree.ensures
