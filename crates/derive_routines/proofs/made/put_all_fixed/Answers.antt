use Rattle.std.specs.Prelude.{codes}
use Rattle.derive_routines.specs.Held.{asked_of}
use Rattle.derive_routines.specs.Made.{both, child_texts, fixed_text, sibling_texts, spaces}
use Rattle.derive_routines.proofs.Chains.{four}
use Rattle.derive_routines.proofs.made.put_all_fixed.Goals as goal

pub returns : goal.returns
returns c =
    let a = asked_of c.args.asked in
    four c.args.text.now.items (fixed_text a (codes "x__spaces") spaces) (fixed_text a (codes "x__both") both)
    (child_texts a) (sibling_texts a) c.in_ok-put_fixed.ensures c.in_ok-put_fixed-2.ensures
    c.in_ok-put_child_routines.ensures c.in_ok-put_sibling_routines.ensures
