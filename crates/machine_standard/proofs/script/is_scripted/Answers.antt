use Rattle.std.proofs.Common.{ap, sym, ◌∙◌}
use Rattle.std.specs.Prelude.{◌&&◌}
use Rattle.machine_standard_windows.specs.TurnState.{place}
use Rattle.machine_standard.specs.Script.{is_heard}
use Rattle.machine_standard.proofs.script.is_scripted.Goals as goal

pub returns : goal.returns
returns c = λ next. c.is_heard.ensures next
    ∙ ap (λ b. b && is_heard (place c.args.turn.now next)) (sym c.if-not-is_on.false ∙ c.is_on.ensures)
