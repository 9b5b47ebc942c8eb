use Rattle.syntax_expressions.proofs.Given.{sound, complete, deep, at_first, one_tree}
use Rattle.syntax_expressions.proofs.laws.reads_the_grammar.Goals as goal

pub returns-clause-sound : goal.returns-clause-sound
returns-clause-sound c = sound

pub returns-clause-complete : goal.returns-clause-complete
returns-clause-complete c = complete

pub returns-clause-deep : goal.returns-clause-deep
returns-clause-deep c = deep

pub returns-clause-first : goal.returns-clause-first
returns-clause-first c = at_first

pub returns-clause-one_tree : goal.returns-clause-one_tree
returns-clause-one_tree c = one_tree
