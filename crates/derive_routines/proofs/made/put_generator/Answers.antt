use Rattle.std.proofs.lemmas.Result.{on_ok_weaker}
use Rattle.derive_routines.proofs.Chains.{three}
use Rattle.derive_routines.proofs.made.put_generator.Goals as goal

pub returns : goal.returns
returns c = on_ok_weaker c.put-3.result
    (λ e. three c.args.text.now.items _ _ _ c.in_ok-put.ensures c.in_ok-put-2.ensures e) c.put-3.ensures
