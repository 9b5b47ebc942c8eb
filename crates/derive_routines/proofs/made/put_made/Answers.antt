use Rattle.derive_routines.specs.Held.{asked_of}
use Rattle.derive_routines.specs.Made.{fixed_texts, opening, randoms_text, uses_text}
use Rattle.derive_routines.proofs.Chains.{four}
use Rattle.derive_routines.proofs.made.put_made.Goals as goal

pub returns : goal.returns
returns c =
    let a = asked_of c.args.asked in
    four c.args.text.now.items (opening a) (uses_text a) (randoms_text a) (fixed_texts a) c.in_ok-put_opening.ensures
    c.in_ok-put_uses.ensures c.in_ok-put_random.ensures c.in_ok-put_all_fixed.ensures
