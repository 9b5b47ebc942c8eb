use Rattle.std.proofs.Common.{◌≡◌, arith, subst}
use Rattle.machine_frames.specs.Contents.{memory_of}
use Rattle.machine_lines.specs.Lines.{Filled}
use Rattle.zcore_standard.specs.Tables.{cleared}
use Rattle.machine_standard_tables.proofs.Copies.{clear_more, place_short, place_writable}
use Rattle.machine_standard_tables.proofs.copying.clear.Goals as goal

pub overflow_add-at : goal.overflow_add-at
overflow_add-at c = omega (
  arith,
  place_short c.args.store.now.store c.args.at c.args.count c.loop-i.i c.requires.sound c.requires.writable
      c.loop-i-test.true,
)

pub write-requires-clause-writable : goal.write-requires-clause-writable
write-requires-clause-writable c = place_writable c.args.store.now c.loop-i.store _ c.args.at c.args.count c.loop-i.i
    c.loop-i.invariant c.requires.writable c.loop-i-test.true

pub loop-i-preserved : goal.loop-i-preserved
loop-i-preserved c = clear_more c.args.store.now c.loop-i.store c.write.new.store c.args.at c.loop-i.i
    c.loop-i.invariant c.in_ok-write.ensures.filled

pub returns-clause-filled : goal.returns-clause-filled
returns-clause-filled c =
    let all : c.loop-i.i ≡ c.args.count = omega arith in
    subst (λ n. Filled c.args.store.now c.loop-i.store (cleared (memory_of c.args.store.now.store) c.args.at n))
    all c.loop-i.invariant
