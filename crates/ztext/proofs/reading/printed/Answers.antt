use Rattle.std.proofs.Common.{arith, ◌+◌, ◌*◌, Ok}
use Rattle.ztext.proofs.Loops.{printed_escape, printed_letter}
use Rattle.ztext.proofs.reading.printed.Goals as goal

pub returns-in-EscapeLow : goal.returns-in-EscapeLow
returns-in-EscapeLow c = printed_escape c.args.state c.in-EscapeLow.high c.args.z
    (32 * c.from.result + c.from-in-EscapeLow.result) c.escaped.result c.in-EscapeLow.is (omega arith)
    c.escaped.ensures

pub returns-in_default : goal.returns-in_default
returns-in_default c = printed_letter c.args.state c.args.z (Ok c.letter.result) c.in-Lower.is (omega arith)
    c.letter.ensures
