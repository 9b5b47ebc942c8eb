use Rattle.std.proofs.Common.{map, arith}
use Rattle.meaning.specs.Views.{program_of}
use Rattle.map_text.specs.Text.{row_of}
use Rattle.map_lines.proofs.Growing.{all_mapped, one_more}
use Rattle.map_lines.proofs.program.rows_of.Goals as goal

pub loop-number-preserved : goal.loop-number-preserved
loop-number-preserved c =
    one_more c.args.version (program_of c.args.checked.now) c.args.place c.args.checked.now.routines
    c.loop-number.number c.loop-number.at c.aligned-address.result _ _ _ (omega arith) c.loop-number.invariant
    c.aligned-address.ensures.later c.aligned-address.ensures.same c.in_ok-at.ensures

pub returns : goal.returns
returns c =
    let all = all_mapped c.args.version (program_of c.args.checked.now) c.args.place c.args.checked.now.routines
    c.loop-number.number c.loop-number.at (map row_of c.loop-number.rows.items)
    (omega (arith, c.loop-number-test.false)) c.loop-number.invariant in
    record { routines = all.0; ascend = all.1 }
