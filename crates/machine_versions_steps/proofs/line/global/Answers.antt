use Rattle.std.proofs.Common.{◌+◌, ◌-◌, ◌*◌, ◌∙◌, ap, arith, length}
use Rattle.ztext.specs.Bytes.{word_at}
use Rattle.machine_frames.specs.Contents.{memory_of}
use Rattle.machine_frames.proofs.Bytes.{global_inside}
use Rattle.machine_versions_steps.proofs.line.global.Goals as goal

pub bounds-memory-at : goal.bounds-memory-at
bounds-memory-at c =
    let memory = c.memory-memory.ensures ∙ ap memory_of c.store.ensures in
    let address = c.global_address-at.ensures.same
    ∙ ap (λ g. g + 2 * (c.args.variable - 16)) c.requires.store.headed.globals in
    let inside = global_inside c.args.store.now.store c.args.variable _ c.requires.store.sound (omega arith) address in
    omega (arith, ap length memory, inside)

pub bounds-memory-at-2 : goal.bounds-memory-at-2
bounds-memory-at-2 c =
    let memory = c.memory-memory.ensures ∙ ap memory_of c.store.ensures in
    let address = c.global_address-at.ensures.same
    ∙ ap (λ g. g + 2 * (c.args.variable - 16)) c.requires.store.headed.globals in
    let inside = global_inside c.args.store.now.store c.args.variable _ c.requires.store.sound (omega arith) address in
    omega (arith, ap length memory, inside)

pub returns : goal.returns
returns c =
    let memory = c.memory-memory.ensures ∙ ap memory_of c.store.ensures in
    let address = c.global_address-at.ensures.same
    ∙ ap (λ g. g + 2 * (c.args.variable - 16)) c.requires.store.headed.globals in
    ap (λ m. word_at m c.global_address-at.result) memory ∙ ap (word_at (memory_of c.args.store.now.store)) address
