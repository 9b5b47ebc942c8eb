use Rattle.map_lines.proofs.Rising.{left_is, places_rise}
use Rattle.map_lines.proofs.routine.left_of_routine.Goals as goal

pub returns-in-Ok-clause-rise : goal.returns-in-Ok-clause-rise
returns-in-Ok-clause-rise c =
    places_rise c.in-Ok.code.sizes c.in-Ok.code.items c.into_left.result.items c.into_left.ensures

pub returns-in-Ok-clause-left : goal.returns-in-Ok-clause-left
returns-in-Ok-clause-left c =
    left_is c.in-Ok.code.sizes _ c.in-Ok.code.items _ c.into_left.result.items c.into_left.ensures
    c.in-Ok.ensures.sizes c.in-Ok.ensures.items
