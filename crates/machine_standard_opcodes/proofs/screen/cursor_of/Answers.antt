use Rattle.std.proofs.Common.{◌≡◌, ap, arith, drop, refl, ◌∙◌}
use Rattle.zcore_standard.specs.Screen.{cursor_column, cursor_row, in_window, row_in}
use Rattle.zcore_standard.specs.Streams.{heard}
use Rattle.zcore_standard.specs.Windows.{width}
use Rattle.machine_standard_opcodes.proofs.Heard.{heard_part}
use Rattle.machine_standard_opcodes.proofs.screen.cursor_of.Goals as goal

pub returns-clause-row : goal.returns-clause-row
unfolding cursor_row
returns-clause-row c next =
    let t = c.args.turn.now in
    let is : c.row_in.result ≡ row_in t.upper (heard t.streams.items (drop c.args.start c.args.text.now)) =
    c.row_in.ensures ∙ ap (row_in t.upper) (heard_part t.streams.items c.as_slice.result.now c.args.text.now c.args.start
    c.heard_length.result _ c.as_slice.ensures.value (omega arith) c.heard_length.ensures.heard) in
    omega (arith, is, c.min.ensures)

pub returns-clause-column : goal.returns-clause-column
unfolding cursor_column
returns-clause-column c next =
    let t = c.args.turn.now in
    let is : c.width_in.result ≡ width (in_window t.upper (heard t.streams.items (drop c.args.start c.args.text.now))) =
    c.width_in.ensures.same ∙ ap (λ l. width (in_window t.upper l)) (heard_part t.streams.items c.as_slice.result.now
    c.args.text.now c.args.start c.heard_length.result _ c.as_slice.ensures.value (omega arith)
    c.heard_length.ensures.heard) in
    omega (arith, is, c.min-2.ensures)
