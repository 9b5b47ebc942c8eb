use Rattle.syntax_expressions.proofs.Given.{sound_unassigned, complete_unassigned, deep_unassigned, unassigned_at_first, one_unassigned}
use Rattle.syntax_expressions.proofs.laws.reads_conditions.Goals as goal

pub returns-clause-sound : goal.returns-clause-sound
returns-clause-sound c = sound_unassigned

pub returns-clause-complete : goal.returns-clause-complete
returns-clause-complete c = complete_unassigned

pub returns-clause-deep : goal.returns-clause-deep
returns-clause-deep c = deep_unassigned

pub returns-clause-first : goal.returns-clause-first
returns-clause-first c = unassigned_at_first

pub returns-clause-one_tree : goal.returns-clause-one_tree
returns-clause-one_tree c = one_unassigned
