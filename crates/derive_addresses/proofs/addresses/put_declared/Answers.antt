use Rattle.std.specs.Prelude.{codes}
use Rattle.std.specs.Fmt.{decimal}
use Rattle.std.proofs.lemmas.Result.{on_ok_weaker}
use Rattle.derive_routines.proofs.Chains.{three}
use Rattle.derive_addresses.proofs.addresses.put_declared.Goals as goal

pub returns : goal.returns
returns c =
    on_ok_weaker c.put-2.result
    (three c.args.text.now.items (codes "property x__of") (decimal c.args.k) (codes ";") c.in_ok-put.ensures
    c.in_ok-put_number.ensures)
    c.put-2.ensures
