use Rattle.std.proofs.Common.{refl, arith}
use Rattle.zcore.specs.Parts.{test_variable}
use Rattle.std.proofs.lemmas.Bool.{lt-ltb, le-ltb}
use Rattle.machine_opcodes.proofs.variables.test_variable.Goals as goal

pub returns-then-number-gt255-clause-says : goal.returns-then-number-gt255-clause-says
unfolding test_variable
returns-then-number-gt255-clause-says c =
    record { said = λ s. rw (le-ltb c.args.number 256 c.if-number-gt255.true) refl }

pub returns-clause-says : goal.returns-clause-says
unfolding test_variable
returns-clause-says c = record { said = λ s. rw (lt-ltb c.args.number 256 (omega arith)) refl }
