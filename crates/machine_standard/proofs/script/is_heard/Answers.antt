use Rattle.std.proofs.Common.{ap, sym, ◌∙◌, length}
use Rattle.std.specs.Prelude.{◌==◌, ◌&&◌}
use Rattle.machine_standard_windows.proofs.Selecting.{none_open, some_open}
use Rattle.machine_standard.proofs.script.is_heard.Goals as goal

pub returns-then-as_slice-ne0 : goal.returns-then-as_slice-ne0
returns-then-as_slice-ne0 c = λ next. sym (ap (λ b. b && (c.args.turn.now.standard_state.window == 0))
    (some_open c.args.turn.now.streams.items
    (λ e. c.if-as_slice-ne0.true (ap length c.as_slice.ensures.value ∙ e))))

pub returns : goal.returns
returns c = λ next. sym (ap (λ b. b && (c.args.turn.now.standard_state.window == 0))
    (none_open c.args.turn.now.streams.items
    (ap length (sym c.as_slice.ensures.value) ∙ c.if-as_slice-ne0.false)))
