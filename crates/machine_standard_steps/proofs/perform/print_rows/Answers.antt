use Rattle.std.proofs.Common.{◌≡◌, ap, drop, ◌∙◌}
use Rattle.zcore_standard.specs.Screen.{indent_of}
use Rattle.machine_standard_windows.specs.TurnState.{place}
use Rattle.machine_standard_steps.proofs.perform.print_rows.Goals as goal

pub returns-clause-told : goal.returns-clause-told
returns-clause-told c =
    let here = place c.args.turn.now c.args.here in
    let indent : c.indent_of-indent.result ≡ indent_of here (drop c.args.start c.args.text.now.items) =
    c.indent_of-indent.ensures.same c.args.here
    ∙ ap (λ l. indent_of here (drop c.args.start l)) c.as_slice.ensures.value in
    rw (c.characters.ensures, c.value_or-height.ensures, c.value_or-skip.ensures, indent) at c.print_table.ensures.told
