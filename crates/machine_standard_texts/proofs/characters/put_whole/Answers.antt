use Rattle.std.proofs.Common.{arith}
use Rattle.machine_standard_texts.proofs.Printed.{whole_put, whole_full, extends_by}
use Rattle.machine_standard_texts.proofs.characters.put_whole.Goals as goal

pub returns-then-room-bytes-clause-prints : goal.returns-then-room-bytes-clause-prints
returns-then-room-bytes-clause-prints c = whole_full c.args.start _ c.args.bytes.now
    (omega (arith, c.requires.text.begun, c.requires.text.within))

pub returns-in-Ok-clause-prints : goal.returns-in-Ok-clause-prints
returns-in-Ok-clause-prints c = whole_put c.args.start _ _ c.args.bytes.now c.requires.text
    (omega (arith, c.requires.text.begun, c.requires.text.within)) c.in-Ok.ensures.added

pub returns-in-Ok-clause-text : goal.returns-in-Ok-clause-text
returns-in-Ok-clause-text c = extends_by c.args.start _ _ c.args.bytes.now
    (omega (arith, c.requires.text.begun, c.requires.text.within)) c.requires.text c.in-Ok.ensures.added
