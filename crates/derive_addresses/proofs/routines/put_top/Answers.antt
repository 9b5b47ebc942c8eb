use Rattle.std.proofs.lemmas.Result.{on_ok_weaker}
use Rattle.derive_addresses.proofs.Chains.{three}
use Rattle.derive_addresses.proofs.routines.put_top.Goals as goal

pub returns : goal.returns
returns c = on_ok_weaker c.put-2.result
    (λ e. three c.args.text.now.items _ _ _ c.in_ok-put.ensures c.in_ok-put_calls.ensures e) c.put-2.ensures
