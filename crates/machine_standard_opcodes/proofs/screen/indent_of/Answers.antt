use Rattle.std.proofs.Common.{ap, drop, length, refl, sym, ◌∙◌}
use Rattle.zcore_standard.specs.Screen.{in_window, indent_of}
use Rattle.zcore_standard.specs.Windows.{width}
use Rattle.machine_standard_windows.proofs.Drawing.{rest_is}
use Rattle.machine_standard_opcodes.proofs.Heard.{indented, none_indented}
use Rattle.machine_standard_opcodes.proofs.screen.indent_of.Goals as goal

pub returns-then-as_slice-ne0-clause-same : goal.returns-then-as_slice-ne0-clause-same
unfolding indent_of
returns-then-as_slice-ne0-clause-same c next =
    none_indented c.args.turn.now.streams.items c.args.turn.now.upper (drop c.args.start c.args.text.now)
    (λ e. c.if-as_slice-ne0.true (ap length c.as_slice.ensures.value ∙ e))

pub returns-clause-same : goal.returns-clause-same
unfolding indent_of
returns-clause-same c next =
    let t = c.args.turn.now in
    c.width_in.ensures.same
    ∙ ap (λ l. width (in_window t.upper l)) (rest_is c.args.text.now c.args.text.now c.args.start refl)
    ∙ indented t.streams.items t.upper (drop c.args.start c.args.text.now)
    (ap length (sym c.as_slice.ensures.value) ∙ c.if-as_slice-ne0.false)
