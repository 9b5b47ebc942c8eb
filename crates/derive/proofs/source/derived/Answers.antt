use Rattle.derive.proofs.Sources.{derives_joined, refuses_joined}
use Rattle.derive.proofs.source.derived.Goals as goal

pub returns-in-Ok : goal.returns-in-Ok
returns-in-Ok c =
    derives_joined c.args.text.now c.in-Ok.tokens.items c.passed.result c.in-Ok.ensures.meets c.passed.ensures

pub returns-in-Err : goal.returns-in-Err
returns-in-Err c = refuses_joined c.args.text.now c.in-Err.fault c.in-Err.ensures.meets
