use Rattle.std.proofs.Common.{arith}
use Rattle.map_text.proofs.Ascending.{found, rest_behind}
use Rattle.map_text.proofs.search.row_at.Goals as goal

pub returns-then-row-address : goal.returns-then-row-address
returns-then-row-address c = λ up.
    let lt = c.loop-number-test.true in
    found c.args.rows.now c.loop-number.number c.args.address c.row_before.result (omega (arith, lt))
    c.loop-number.invariant
    (rest_behind c.args.rows.now 0 c.loop-number.number c.args.address _ up lt c.if-row-address.true)
    c.row_before.ensures
