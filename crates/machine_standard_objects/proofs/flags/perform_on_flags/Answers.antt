use Rattle.std.proofs.Common.{◌≡◌, ◌+◌, ◌*◌, ◌/◌, ◌%◌, ap, sym, ◌∙◌, arith, length, slice_index}
use Rattle.machine_frames.specs.Contents.{memory_of}
use Rattle.machine_frames.proofs.Bytes.{byte_within}
use Rattle.machine_frames.proofs.Kept.{length-memory}
use Rattle.machine_standard_objects.proofs.Flagging.{flags_went, flags_still}
use Rattle.machine_standard_objects.proofs.flags.perform_on_flags.Goals as goal

pub returns-then-not-has_free_bits : goal.returns-then-not-has_free_bits
returns-then-not-has_free_bits c = flags_still c.args.store.now c.args.operation c.args.here c.args.after
    c.args.values.now c.requires (sym c.has_free_bits.ensures ∙ c.if-not-has_free_bits.true)

pub byte-flags-requires : goal.byte-flags-requires
byte-flags-requires c =
    let e = ap (λ s. length (memory_of s)) c.store.ensures in
    omega (arith, e, length-memory c.args.store.now.store c.requires, c.requires.static_base)

pub put-requires-clause-within : goal.put-requires-clause-within
put-requires-clause-within c = byte_within 72576 _ (omega arith)

pub returns : goal.returns
returns c =
    let m = memory_of c.args.store.now.store in
    let flags = c.byte-flags.ensures ∙ ap (λ m. slice_index m 17) (ap memory_of c.store.ensures) in
    flags_went c.args.store.now _ c.args.operation c.args.here c.args.after c.args.values.now _ c.requires
    (sym c.has_free_bits.ensures ∙ c.if-not-has_free_bits.false)
    (ap (λ b. b / 8 * 8 + c.value_of.result % 8) flags ∙ ap (λ n. slice_index m 17 / 8 * 8 + n % 8) c.value_of.ensures)
    c.in_ok-put.ensures.cells c.put.ensures.fixed c.in_ok-put.ensures.beginning
