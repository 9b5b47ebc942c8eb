use Rattle.std.specs.Prelude.{codes}
use Rattle.derive_routines.specs.Held.{asked_of}
use Rattle.derive_routines.specs.Made.{before, elder, fixed_text, younger}
use Rattle.derive_routines.proofs.Chains.{three}
use Rattle.derive_routines.proofs.made.put_sibling_routines.Goals as goal

pub returns : goal.returns
returns c =
    let a = asked_of c.args.asked in
    three c.args.text.now.items (fixed_text a (codes "x__younger") younger) (fixed_text a (codes "x__elder") elder)
    (fixed_text a (codes "x__elder") before) c.in_ok-put_fixed.ensures c.in_ok-put_fixed-2.ensures
    c.in_ok-put_pair.ensures
