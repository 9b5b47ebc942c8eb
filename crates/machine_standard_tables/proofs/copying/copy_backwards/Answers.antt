use Rattle.std.proofs.Common.{ℕ, arith, ap, subst, sym, ◌≡◌, ◌<◌, ◌+◌, ◌-◌, ◌∙◌, length, slice_index}
use Rattle.machine_frames.specs.Contents.{memory_of}
use Rattle.machine_lines.specs.Lines.{Filled}
use Rattle.machine_standard_tables.proofs.Bytes.{copied_from, from_none, from_all}
use Rattle.machine_standard_tables.proofs.Copies.{copy_less, filled_still, place_short, source_short, source_inside, place_writable}
use Rattle.machine_standard_tables.proofs.copying.copy_backwards.Goals as goal

pub loop-i-init : goal.loop-i-init
loop-i-init c = filled_still c.args.store.now _ c.requires.sound
    (from_none (memory_of c.args.store.now.store) c.args.first c.args.second c.args.count)

pub overflow_add-first : goal.overflow_add-first
overflow_add-first c =
    let i : ℕ = c.loop-i.i - 1 in
    let lt : i < c.args.count = omega arith in
    omega (
      arith,
      source_short c.args.store.now.store c.args.first c.args.count i c.requires.sound c.requires.readable lt,
    )

pub byte-byte-requires : goal.byte-byte-requires
byte-byte-requires c =
    let at = c.args.first + (c.loop-i.i - 1) in
    subst (λ s. at < length (memory_of s)) (sym c.store.ensures)
    (source_inside c.args.store.now c.loop-i.store _ c.args.first c.args.count (c.loop-i.i - 1) c.requires.sound
    c.loop-i.invariant c.requires.readable (omega arith))

pub overflow_add-second : goal.overflow_add-second
overflow_add-second c =
    let i : ℕ = c.loop-i.i - 1 in
    let lt : i < c.args.count = omega arith in
    omega (
      arith,
      place_short c.args.store.now.store c.args.second c.args.count i c.requires.sound c.requires.writable lt,
    )

pub write-requires-clause-writable : goal.write-requires-clause-writable
write-requires-clause-writable c = place_writable c.args.store.now c.loop-i.store _ c.args.second c.args.count
    (c.loop-i.i - 1) c.loop-i.invariant c.requires.writable (omega arith)

pub loop-i-preserved : goal.loop-i-preserved
loop-i-preserved c =
    let i : ℕ = c.loop-i.i - 1 in
    let next : c.loop-i.i ≡ i + 1 = omega arith in
    let m = memory_of c.args.store.now.store in
    copy_less c.args.store.now c.loop-i.store c.write.new.store c.args.first c.args.second c.args.count i
    c.byte-byte.result
    (subst (λ n. Filled c.args.store.now c.loop-i.store (copied_from m c.args.first c.args.second c.args.count n)) next
    c.loop-i.invariant)
    c.requires.readable c.requires.higher (omega arith)
    (c.byte-byte.ensures ∙ ap (λ s. slice_index (memory_of s) (c.args.first + i)) c.store.ensures)
    c.in_ok-write.ensures.filled

pub returns-clause-filled : goal.returns-clause-filled
returns-clause-filled c =
    let m = memory_of c.args.store.now.store in
    subst (Filled c.args.store.now c.loop-i.store)
    (from_all m c.args.first c.args.second c.args.count c.loop-i.i (omega arith)) c.loop-i.invariant
