use Rattle.std.proofs.Common.{◌≡◌, ap, ◌∙◌, arith, length, take, map, slice_index}
use Rattle.std.proofs.lemmas.List.{length-take-le, take_min, length-map}
use Rattle.zcore.specs.State.{Pending}
use Rattle.ztext.specs.Text.{lower_case}
use Rattle.machine_frames.specs.Contents.{memory_of}
use Rattle.machine_frames.specs.States.{variable_of}
use Rattle.machine_frames.proofs.Kept.{length-memory}
use Rattle.machine_lines.proofs.Lines.{pending_parts, line_went, line_stops}
use Rattle.machine_frames.proofs.Steps.{store_after, told_err}
use Rattle.machine_lines.proofs.Buffers.{text_behind, text_room, words_behind, words_room, letters_lower, line_told}
use Rattle.machine_lines.proofs.line.give_line.Goals as goal

pub bounds-memory-text_buffer : goal.bounds-memory-text_buffer
bounds-memory-text_buffer c =
    let b = text_room c.args.store.now.store c.cell-text_buffer.result c.requires.waiting c.cell-text_buffer.ensures
    in
    let e = ap length (c.memory.ensures ∙ ap memory_of c.store.ensures) in
    omega (arith, b, e, length-memory c.args.store.now.store c.requires.store.sound)

pub fill_buffers-requires-clause-behind_header : goal.fill_buffers-requires-clause-behind_header
fill_buffers-requires-clause-behind_header c = text_behind c.args.store.now.store c.cell-text_buffer.result
    c.requires.waiting c.cell-text_buffer.ensures

pub fill_buffers-requires-clause-room : goal.fill_buffers-requires-clause-room
fill_buffers-requires-clause-room c =
    let b = text_room c.args.store.now.store c.cell-text_buffer.result c.requires.waiting c.cell-text_buffer.ensures
    in
    let e = ap (λ m. slice_index m c.cell-text_buffer.result) (c.memory.ensures ∙ ap memory_of c.store.ensures) in
    let long : length (take c.min-count.result c.args.line.now) ≡ c.min-count.result = length-take-le
    c.min-count.result c.args.line.now (omega (arith, c.min-count.ensures)) in
    let letters = ap length (letters_lower c.min-count.result c.args.line.now c.lower.new.letters long
    c.lower.ensures) ∙ length-map (take c.min-count.result c.args.line.now) lower_case in
    omega (arith, b, e, long, letters, c.min-count.ensures)

pub fill_buffers-requires-clause-words_behind_header : goal.fill_buffers-requires-clause-words_behind_header
fill_buffers-requires-clause-words_behind_header c = words_behind c.args.store.now.store c.cell-parse_buffer.result
    c.requires.waiting c.cell-parse_buffer.ensures

pub fill_buffers-requires-clause-words_room : goal.fill_buffers-requires-clause-words_room
fill_buffers-requires-clause-words_room c = words_room c.args.store.now.store c.cell-parse_buffer.result
    c.requires.waiting c.cell-parse_buffer.ensures

pub store_result-requires : goal.store_result-requires
store_result-requires c = store_after (store_after c.requires.store c.in_ok-fill_buffers.ensures.filled.goes_on)
    c.in_ok-stop_waiting.ensures.waits.goes_on

pub returns-in_err-store_result : goal.returns-in_err-store_result
returns-in_err-store_result c = λ p h.
    let parts = pending_parts (slice_index c.args.store.now.store.cells) p h in
    let memory = c.memory.ensures ∙ ap memory_of c.store.ensures in
    let long : length (take c.min-count.result c.args.line.now) ≡ c.min-count.result = length-take-le
    c.min-count.result c.args.line.now (omega (arith, c.min-count.ensures)) in
    told_err _ c.from_residual-in_err-store_result.ensures.1
    (line_told p c.args.line.now _ c.cell-text_buffer.result c.cell-parse_buffer.result c.args.fuel
    (c.cell-text_buffer.ensures ∙ ap (λ (q : Pending). q.text_buffer) parts)
    (c.cell-parse_buffer.ensures ∙ ap (λ (q : Pending). q.parse_buffer) parts)
    (letters_lower c.min-count.result c.args.line.now c.lower.new.letters long c.lower.ensures
    ∙ ap (map lower_case) (ap (λ n. take n c.args.line.now) c.min-count.ensures
    ∙ take_min (slice_index c.memory.result.now c.cell-text_buffer.result) c.args.line.now
    ∙ ap (λ m. take (slice_index m c.cell-text_buffer.result) c.args.line.now) memory))
    c.in_ok-fill_buffers.ensures.filled c.in_ok-stop_waiting.ensures.waits
    (line_stops p _ c.args.fuel (c.variable_in-result_variable.ensures ∙ ap variable_of c.cell.ensures
    ∙ ap (λ (q : Pending). q.result) parts) c.in_err-store_result.ensures))

pub returns : goal.returns
returns c = λ p h.
    let parts = pending_parts (slice_index c.args.store.now.store.cells) p h in
    let memory = c.memory.ensures ∙ ap memory_of c.store.ensures in
    let long : length (take c.min-count.result c.args.line.now) ≡ c.min-count.result = length-take-le
    c.min-count.result c.args.line.now (omega (arith, c.min-count.ensures)) in
    line_told p c.args.line.now _ c.cell-text_buffer.result c.cell-parse_buffer.result c.args.fuel
    (c.cell-text_buffer.ensures ∙ ap (λ (q : Pending). q.text_buffer) parts)
    (c.cell-parse_buffer.ensures ∙ ap (λ (q : Pending). q.parse_buffer) parts)
    (letters_lower c.min-count.result c.args.line.now c.lower.new.letters long c.lower.ensures
    ∙ ap (map lower_case) (ap (λ n. take n c.args.line.now) c.min-count.ensures
    ∙ take_min (slice_index c.memory.result.now c.cell-text_buffer.result) c.args.line.now
    ∙ ap (λ m. take (slice_index m c.cell-text_buffer.result) c.args.line.now) memory))
    c.in_ok-fill_buffers.ensures.filled c.in_ok-stop_waiting.ensures.waits
    (line_went p _ _ c.args.fuel (c.variable_in-result_variable.ensures ∙ ap variable_of c.cell.ensures
    ∙ ap (λ (q : Pending). q.result) parts) (c.long-program_counter.ensures ∙ ap (λ (q : Pending). q.return_address)
    parts) c.in_ok-store_result.ensures)
