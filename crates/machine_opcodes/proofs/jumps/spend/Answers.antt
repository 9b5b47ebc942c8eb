use Rattle.std.proofs.Common.{refl}
use Rattle.std.proofs.lemmas.Bool.{ne_eqb}
use Rattle.zcore.specs.Parts.{spend}
use Rattle.machine_opcodes.proofs.jumps.spend.Goals as goal

pub returns-then-fuel-eq0 : goal.returns-then-fuel-eq0
unfolding spend
returns-then-fuel-eq0 c = record { said = λ s. rw c.if-fuel-eq0.true refl }

pub returns : goal.returns
unfolding spend
returns c = record { said = λ s. rw (ne_eqb c.args.fuel 0 c.if-fuel-eq0.false) refl }
