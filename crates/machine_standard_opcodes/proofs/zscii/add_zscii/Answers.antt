use Rattle.std.proofs.Common.{◌<◌, length, ap, ◌∙◌, arith}
use Rattle.std.proofs.lemmas.List.{length-append}
use Rattle.std.proofs.lemmas.List.{get_or_default}
use Rattle.machine_standard_opcodes.proofs.Codes.{added_none, added_next, added_all, added_front}
use Rattle.machine_standard_opcodes.proofs.zscii.add_zscii.Goals as goal

pub loop-i-init : goal.loop-i-init
loop-i-init c = added_none _ _ _

pub index-requires : goal.index-requires
index-requires c =
    let a = c.loop-i.invariant in
    omega (arith, ap length a.text, length-append c.args.text.now.items a.codes, c.loop-i-test.true)

pub next_byte-next-requires : goal.next_byte-next-requires
next_byte-next-requires c = c.loop-i.invariant.state

pub returns-in_err-begun-clause-front : goal.returns-in_err-begun-clause-front
returns-in_err-begun-clause-front c =
    rw c.in_err-begun.ensures.same (added_front _ _ _ _ _ _ c.loop-i.invariant)

pub loop-i-preserved : goal.loop-i-preserved
loop-i-preserved c =
    let a = c.loop-i.invariant in
    let lt : c.loop-i.i < length c.loop-i.text.items =
    omega (arith, ap length a.text, length-append c.args.text.now.items a.codes, c.loop-i-test.true) in
    added_next _ _ _ _ _ _ c.index.result.now _ _ _ a (omega (arith, c.loop-i-test.true))
    (c.index.ensures ∙ get_or_default c.loop-i.text.items c.loop-i.i c.index.result.now 0 lt)
    c.next_byte-next.ensures.same c.next_byte-next.ensures.begun c.in_ok-begun.ensures.added

pub returns-clause-added : goal.returns-clause-added
returns-clause-added c = added_all _ _ _ _ _ _ c.loop-i.invariant (omega arith)

pub returns-clause-front : goal.returns-clause-front
returns-clause-front c = added_front _ _ _ _ _ _ c.loop-i.invariant
