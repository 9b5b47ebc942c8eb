use Rattle.std.proofs.Common.{sym, ap, length, arith}
use Rattle.syntax_lexer.proofs.SignTokens as signs
use Rattle.syntax_lexer.proofs.scan.scan.Goals as goal

pub returns-then-is_letter-clause-room : goal.returns-then-is_letter-clause-room
returns-then-is_letter-clause-room c = signs.room c.args.bytes.now c.name_token.result c.name_token.ensures

pub returns-in-Some-clause-scanned : goal.returns-in-Some-clause-scanned
returns-in-Some-clause-scanned c = signs.sign_found c.args.bytes.now c.in-Some.sign 1
    (signs.lone_found c.args.bytes.now c.in-Some.sign c.in-Some.ensures) (sym (ap length c.in-Some.ensures.0))

pub returns-in-Some-clause-room : goal.returns-in-Some-clause-room
returns-in-Some-clause-room c = (omega arith, omega (arith, c.requires.nonempty))
