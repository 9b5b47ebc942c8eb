use Rattle.std.proofs.Common.{◌+◌, ◌-◌, ◌*◌, ◌∙◌, ap, arith}
use Rattle.machine_frames.proofs.Bytes.{byte_within, write_global_went}
use Rattle.machine_frames.proofs.variables.write_global.Goals as goal

pub put-requires-clause-within : goal.put-requires-clause-within
put-requires-clause-within c = byte_within _ _ (omega arith)

pub put-requires-2-clause-within : goal.put-requires-2-clause-within
put-requires-2-clause-within c = byte_within _ _ (omega arith)

pub returns : goal.returns
returns c =
    let address = c.global_address-at.ensures.same
    ∙ ap (λ g. g + 2 * (c.args.variable - 16)) c.requires.store.headed.globals in
    write_global_went c.args.store.now _ c.put.new.self.store.cells c.args.variable c.global_address-at.result
    c.args.word c.requires.store.sound (omega arith) address
    c.in_ok-put.ensures.cells c.in_ok-put-2.ensures.cells (c.put-2.ensures.fixed ∙ c.put.ensures.fixed)
    (c.in_ok-put-2.ensures.beginning ∙ c.in_ok-put.ensures.beginning)
