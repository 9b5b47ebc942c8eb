use Rattle.std.specs.Prelude.{codes}
use Rattle.derive_routines.specs.Held.{asked_of}
use Rattle.derive_routines.specs.Made.{children, eldest, fixed_text, youngest}
use Rattle.derive_routines.proofs.Chains.{three}
use Rattle.derive_routines.proofs.made.put_child_routines.Goals as goal

pub returns : goal.returns
returns c =
    let a = asked_of c.args.asked in
    three c.args.text.now.items (fixed_text a (codes "x__children") children) (fixed_text a (codes "x__youngest") youngest)
    (fixed_text a (codes "x__eldest") eldest) c.in_ok-put_pair.ensures c.in_ok-put_pair-2.ensures
    c.in_ok-put_fixed.ensures
