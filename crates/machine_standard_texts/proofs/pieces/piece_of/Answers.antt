use Rattle.std.proofs.Common.{arith}
use Rattle.machine_standard_texts.proofs.Read.{comes_letter}
use Rattle.machine_standard_texts.proofs.pieces.piece_of.Goals as goal

pub returns-in_default : goal.returns-in_default
returns-in_default c = comes_letter c.args.alphabets.now c.args.state c.args.z c.letter.result c.in-Lower.is
    (omega arith) c.letter.ensures
