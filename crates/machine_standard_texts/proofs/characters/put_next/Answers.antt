use Rattle.std.proofs.Common.{[], ◌∷◌}
use Rattle.machine_standard_texts.proofs.Printed.{on_code, on_halted}
use Rattle.machine_standard_texts.proofs.characters.put_next.Goals as goal

pub returns-in-None-clause-prints : goal.returns-in-None-clause-prints
returns-in-None-clause-prints c =
    rw c.in-None.is (on_code c.args.characters.now _ _ c.put_code.result c.args.code c.put_code.ensures.prints)

pub returns-in-Some-clause-prints : goal.returns-in-Some-clause-prints
returns-in-Some-clause-prints c =
    rw c.in-Some.is (on_halted c.args.characters.now _ c.in-Some.halt (c.args.code ∷ []))
