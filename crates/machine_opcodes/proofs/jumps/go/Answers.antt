use Rattle.std.proofs.Common.{refl}
use Rattle.std.proofs.lemmas.Bool.{lt-ltb, le-ltb}
use Rattle.zcore.specs.Parts.{go}
use Rattle.machine_opcodes.proofs.Saying.{says_then, says_no_further, says_err}
use Rattle.machine_opcodes.proofs.jumps.go.Goals as goal

pub returns-then-here-target : goal.returns-then-here-target
unfolding go
returns-then-here-target c = rw (lt-ltb c.args.here.program_counter c.args.target c.if-here-target.true)
    (record { said = λ s. refl })

pub returns-in_err-fuel : goal.returns-in_err-fuel
unfolding go
returns-in_err-fuel c = rw (le-ltb c.args.here.program_counter c.args.target c.if-here-target.false)
    (says_err _ c.from_residual.ensures.1 (says_no_further _ _ c.in_err-fuel.ensures))

pub returns : goal.returns
unfolding go
returns c = rw (le-ltb c.args.here.program_counter c.args.target c.if-here-target.false)
    (says_then _ _ c.in_ok-fuel.ensures (record { said = λ s. refl }))
