use Rattle.terminal.specs.Arguments.{AreArguments}
use Rattle.terminal.proofs.Numbers.{fuel_read, undo_read}
use Rattle.terminal.proofs.Rows.{are_arguments}
use Rattle.terminal.proofs.play.arguments.command.Goals as goal

pub returns-clause-fuel : goal.returns-clause-fuel
returns-clause-fuel c =
    let all : AreArguments c.in_ok-arguments.arguments.items =
    are_arguments c.rows.result.now c.in_ok-arguments.arguments.items c.rows.ensures.names c.rows.ensures.numbers
    c.in_ok-arguments.ensures in
    fuel_read c.program.result c.in_ok-arguments.arguments.items c.args-2.result c.program.ensures all c.args-2.ensures

pub returns-clause-undo : goal.returns-clause-undo
returns-clause-undo c =
    let all : AreArguments c.in_ok-arguments.arguments.items =
    are_arguments c.rows.result.now c.in_ok-arguments.arguments.items c.rows.ensures.names c.rows.ensures.numbers
    c.in_ok-arguments.ensures in
    undo_read c.program.result c.in_ok-arguments.arguments.items c.args-2.result c.program.ensures all c.args-2.ensures
