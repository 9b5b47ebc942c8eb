use Rattle.std.proofs.Common.{ap, sym, ◌∙◌, length}
use Rattle.machine_standard_windows.specs.TurnState.{place}
use Rattle.machine_standard_windows.proofs.Selecting.{upper_open, upper_shut}
use Rattle.machine_standard_windows.proofs.windows.open_upper.Goals as goal

pub returns-then-as_slice-ne0 : goal.returns-then-as_slice-ne0
returns-then-as_slice-ne0 c = λ next. upper_shut (place c.args.turn.now next)
    (λ e. c.if-as_slice-ne0.true (ap length c.as_slice.ensures.value ∙ e))

pub returns : goal.returns
returns c = λ next. upper_open (place c.args.turn.now next)
    (ap length (sym c.as_slice.ensures.value) ∙ c.if-as_slice-ne0.false)
