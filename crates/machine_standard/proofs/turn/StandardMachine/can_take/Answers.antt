use Rattle.std.proofs.Common.{ap, ◌∙◌}
use Rattle.zcore_standard.specs.Input.{can_be_typed}
use Rattle.machine_standard.proofs.turn.StandardMachine.can_take.Goals as goal

pub returns : goal.returns
returns c = c.can_be_typed.ensures ∙ ap (λ x. can_be_typed x c.args.line.now) c.characters.ensures
