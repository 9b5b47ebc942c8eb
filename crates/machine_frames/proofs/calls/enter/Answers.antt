use Rattle.std.proofs.Common.{◌<◌, ◌≤◌, ◌∙◌, ap, sym, arith, length, slice_index}
use Rattle.zcore.specs.Parts.{is_code}
use Rattle.machine_frames.specs.Contents.{memory_of}
use Rattle.machine_frames.proofs.Lists.{wrote_three}
use Rattle.machine_frames.proofs.Entering.{code_inside, copied_locals, length-locals_of, enter_went}
use Rattle.machine_frames.proofs.calls.enter.Goals as goal

pub bounds-memory-routine : goal.bounds-memory-routine
bounds-memory-routine c =
    let memory = c.memory.ensures ∙ ap memory_of c.store.ensures in
    code_inside c.memory.result.now c.args.routine (ap (λ m. is_code m c.args.routine) memory ∙ c.requires.ready.code)

pub slice_bounds-put_all-end-2 : goal.slice_bounds-put_all-end-2
slice_bounds-put_all-end-2 c =
    let memory = c.memory.ensures ∙ ap memory_of c.store.ensures in
    let count = slice_index c.memory.result.now c.args.routine in
    let few : count ≤ 15 = omega (arith, ap (λ m. slice_index m c.args.routine) memory, c.requires.ready.few) in
    let locals = copied_locals c.copy_from_slice.new.self c.args.arguments.now count c.copy_from_slice.ensures.after
    c.requires.few few in
    sym (ap length locals ∙ length-locals_of count c.args.arguments.now few)

pub returns : goal.returns
returns c =
    let memory = c.memory.ensures ∙ ap memory_of c.store.ensures in
    let count = slice_index c.memory.result.now c.args.routine in
    let is_count = ap (λ m. slice_index m c.args.routine) memory in
    let few : count ≤ 15 = omega (arith, is_count, c.requires.ready.few) in
    let locals = copied_locals c.copy_from_slice.new.self c.args.arguments.now count c.copy_from_slice.ensures.after
    c.requires.few few in
    let some : 0 < length c.put_all-2.new.store.store.cells = omega
    (arith, c.in_ok-put_all-2.ensures.cells.size, c.in_ok-put_all.ensures.cells.size, c.requires.sound.size) in
    enter_went _ _ c.cell-frames.result c.height-base.result count c.args.routine c.args.return_address
    c.variable_cell.result c.args.arguments.now _ c.args.result_variable c.requires.sound c.requires.ready
    c.cell-frames.ensures (omega (arith, c.cell-frames.ensures, c.requires.room)) c.height-base.ensures.same is_count
    locals c.variable_cell.ensures
    (record {
      first = c.put_all.new.store.store.cells;
      second = c.put_all-2.new.store.store.cells;
      facts = c.in_ok-put_all.ensures.cells;
      words = c.in_ok-put_all-2.ensures.cells;
      registers = wrote_three _ _ _ _ _ _ some c.in_ok-put.ensures.cells c.in_ok-put_long.ensures.cells;
    })
    (c.put_long.ensures.fixed ∙ c.put.ensures.fixed ∙ c.put_all-2.ensures.fixed ∙ c.put_all.ensures.fixed)
    (c.in_ok-put_long.ensures.beginning ∙ c.in_ok-put.ensures.beginning ∙ c.in_ok-put_all-2.ensures.beginning
    ∙ c.in_ok-put_all.ensures.beginning)
