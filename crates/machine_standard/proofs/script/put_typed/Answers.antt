use Rattle.std.proofs.Common.{ap, sym, ◌∙◌, List, ℕ, [], ◌∷◌, ◌++◌, arith, length, slice_index}
use Rattle.zcore_standard.specs.Loaded.{Loaded}
use Rattle.machine_frames.specs.Contents.{memory_of}
use Rattle.machine.proofs.Turning.{long_memory}
use Rattle.machine_standard.specs.Script.{is_on}
use Rattle.machine_standard.proofs.Scripted.{line_typed, no_line, nothing_above, text_buffer_of}
use Rattle.machine_standard.proofs.script.put_typed.Goals as goal

pub is_on-requires : goal.is_on-requires
is_on-requires c =
    let e = ap length (c.memory.ensures ∙ ap memory_of c.store.ensures) in
    omega (arith, e, long_memory c.args.store.now.store c.requires.store)

pub returns-then-standard_state-ne-LOWER : goal.returns-then-standard_state-ne-LOWER
returns-then-standard_state-ne-LOWER c = λ story same pending waits.
    let window = ap (λ s. s.window) c.standard_state.ensures in
    c.requires.empty
    ∙ sym (nothing_above story.loaded pending c.args.line.now (memory_of c.args.store.now.store) _
    (λ e. c.if-standard_state-ne-LOWER.true (window ∙ e)))

pub returns-then-cell-eq0 : goal.returns-then-cell-eq0
returns-then-cell-eq0 c = λ story same pending waits.
    let f = slice_index c.args.store.now.store.cells in
    let window = ap (λ s. s.window) c.standard_state.ensures in
    c.requires.empty
    ∙ sym (no_line story.loaded pending c.args.line.now (memory_of c.args.store.now.store) _
    (sym window ∙ c.if-standard_state-ne-LOWER.false)
    (sym (text_buffer_of f pending waits) ∙ sym c.cell.ensures ∙ c.if-cell-eq0.true))

pub returns : goal.returns
returns c = λ story same pending waits.
    let f = slice_index c.args.store.now.store.cells in
    let line = c.args.line.now in
    let memory = c.memory.ensures ∙ ap memory_of c.store.ensures in
    let window = ap (λ s. s.window) c.standard_state.ensures in
    c.in_ok-push.ensures.items
    ∙ ap (λ (l : List ℕ). l ++ 10 ∷ [])
    (c.in_ok-extend_from_slice.ensures.items ∙ ap (λ (l : List ℕ). l ++ line) c.requires.empty)
    ∙ sym (line_typed story.loaded pending line (memory_of c.args.store.now.store) _
    (ap (λ (l : Loaded). is_on l (memory_of c.args.store.now.store)) same
    ∙ sym (ap (λ (m : List ℕ). is_on c.args.loaded.now m) memory) ∙ sym c.is_on.ensures ∙ c.if-not-is_on.false)
    (sym window ∙ c.if-standard_state-ne-LOWER.false)
    (λ e. c.if-cell-eq0.false (c.cell.ensures ∙ text_buffer_of f pending waits ∙ e)))
