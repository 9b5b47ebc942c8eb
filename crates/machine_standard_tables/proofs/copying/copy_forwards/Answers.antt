use Rattle.std.proofs.Common.{◌≡◌, arith, ap, refl, subst, sym, ◌<◌, ◌+◌, ◌∙◌, length, slice_index}
use Rattle.machine_frames.specs.Contents.{memory_of}
use Rattle.machine_lines.specs.Lines.{Filled}
use Rattle.zcore_standard.specs.Tables.{copied_forwards}
use Rattle.machine_standard_tables.proofs.Copies.{copy_more, filled_still, place_short, source_short, source_inside, place_writable}
use Rattle.machine_standard_tables.proofs.copying.copy_forwards.Goals as goal

pub loop-i-init : goal.loop-i-init
unfolding copied_forwards
loop-i-init c = filled_still c.args.store.now _ c.requires.sound refl

pub overflow_add-first : goal.overflow_add-first
overflow_add-first c = omega (
  arith,
  source_short c.args.store.now.store c.args.first c.args.count c.loop-i.i c.requires.sound c.requires.readable
      c.loop-i-test.true,
)

pub byte-byte-requires : goal.byte-byte-requires
byte-byte-requires c =
    let at = c.args.first + c.loop-i.i in
    subst (λ s. at < length (memory_of s)) (sym c.store.ensures)
    (source_inside c.args.store.now c.loop-i.store _ c.args.first c.args.count c.loop-i.i c.requires.sound
    c.loop-i.invariant c.requires.readable c.loop-i-test.true)

pub overflow_add-second : goal.overflow_add-second
overflow_add-second c = omega (
  arith,
  place_short c.args.store.now.store c.args.second c.args.count c.loop-i.i c.requires.sound c.requires.writable
      c.loop-i-test.true,
)

pub write-requires-clause-writable : goal.write-requires-clause-writable
write-requires-clause-writable c = place_writable c.args.store.now c.loop-i.store _ c.args.second c.args.count
    c.loop-i.i c.loop-i.invariant c.requires.writable c.loop-i-test.true

pub loop-i-preserved : goal.loop-i-preserved
loop-i-preserved c = copy_more c.args.store.now c.loop-i.store c.write.new.store c.args.first c.args.second c.loop-i.i
    c.byte-byte.result c.loop-i.invariant
    (c.byte-byte.ensures ∙ ap (λ s. slice_index (memory_of s) (c.args.first + c.loop-i.i)) c.store.ensures)
    c.in_ok-write.ensures.filled

pub returns-clause-filled : goal.returns-clause-filled
returns-clause-filled c =
    let all : c.loop-i.i ≡ c.args.count = omega arith in
    subst
    (λ n. Filled c.args.store.now c.loop-i.store
    (copied_forwards (memory_of c.args.store.now.store) c.args.first c.args.second n))
    all c.loop-i.invariant
