use Rattle.std.proofs.Common.{◌≡◌, ap, ◌∙◌, sym, subst, true, slice_index}
use Rattle.zcore.specs.State.{Pending}
use Rattle.zcore_versions.specs.Reading.{can_take_old}
use Rattle.machine_frames.specs.Contents.{memory_of}
use Rattle.machine_frames.specs.States.{variable_of}
use Rattle.machine_frames.proofs.Steps.{store_after, told_err}
use Rattle.machine_lines.proofs.Lines.{pending_parts}
use Rattle.zcore_versions.specs.Versions.{versioned}
use Rattle.machine_standard_words.proofs.Giving.{word_went, word_stops}
use Rattle.machine_versions_words.proofs.Handing.{given_told}
use Rattle.machine_versions_words.proofs.given.give_older.Goals as goal

pub take_line-requires-clause-given : goal.take_line-requires-clause-given
take_line-requires-clause-given c =
    let s = c.args.store.now.store in
    let w = c.requires.waiting in
    let parts = sym (pending_parts (slice_index s.cells) w.pending w.waits) in
    subst (λ t. can_take_old (memory_of s) t c.cell-parse.result ≡ true)
    (ap (λ (q : Pending). q.text_buffer) parts ∙ sym c.cell-text.ensures)
    (subst (λ p. can_take_old (memory_of s) w.pending.text_buffer p ≡ true)
    (ap (λ (q : Pending). q.parse_buffer) parts ∙ sym c.cell-parse.ensures) w.right)

pub store_result-requires : goal.store_result-requires
store_result-requires c = store_after (store_after c.requires.store c.in_ok-word.ensures.filled.goes_on)
    c.in_ok-stop_waiting.ensures.waits.goes_on

pub returns-in_err-store_result : goal.returns-in_err-store_result
returns-in_err-store_result c = λ p h.
    let parts = pending_parts (slice_index c.args.store.now.store.cells) p h in
    told_err _ c.from_residual-in_err-store_result.ensures.1
    (given_told (versioned c.args.loaded.now c.args.version) p c.args.line.now c.cell-text.result c.cell-parse.result _ c.args.fuel
    (c.cell-text.ensures ∙ ap (λ (q : Pending). q.text_buffer) parts)
    (c.cell-parse.ensures ∙ ap (λ (q : Pending). q.parse_buffer) parts) c.in_ok-word.ensures.word
    c.in_ok-word.ensures.filled c.in_ok-stop_waiting.ensures.waits
    (word_stops p _ _ c.args.fuel (c.variable_in-result_variable.ensures ∙ ap variable_of c.cell.ensures
    ∙ ap (λ (q : Pending). q.result) parts) c.in_err-store_result.ensures))

pub returns : goal.returns
returns c = λ p h.
    let parts = pending_parts (slice_index c.args.store.now.store.cells) p h in
    given_told (versioned c.args.loaded.now c.args.version) p c.args.line.now c.cell-text.result c.cell-parse.result _ c.args.fuel
    (c.cell-text.ensures ∙ ap (λ (q : Pending). q.text_buffer) parts)
    (c.cell-parse.ensures ∙ ap (λ (q : Pending). q.parse_buffer) parts) c.in_ok-word.ensures.word
    c.in_ok-word.ensures.filled c.in_ok-stop_waiting.ensures.waits
    (word_went p _ _ _ c.args.fuel (c.variable_in-result_variable.ensures ∙ ap variable_of c.cell.ensures
    ∙ ap (λ (q : Pending). q.result) parts) (c.long-program_counter.ensures ∙ ap (λ (q : Pending). q.return_address)
    parts) c.in_ok-store_result.ensures)
