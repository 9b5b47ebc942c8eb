use Rattle.std.proofs.Common.{[], ap, sym, ◌∙◌}
use Rattle.journal.specs.Recording.{Recording}
use Rattle.machine_frames.specs.Contents.{Contents, memory_of}
use Rattle.machine_frames.specs.States.{state_of}
use Rattle.zcore_versions.specs.StatusLine.{shows_time, with_score, with_time}
use Rattle.zcore_versions.specs.Versions.{versioned}
use Rattle.machine_versions_steps.proofs.Columns.{no_line, on_ok, scored, timed}
use Rattle.machine_versions_steps.proofs.line.put_status_line.Goals as goal

pub returns-then-not-is_small-clause-line : goal.returns-then-not-is_small-clause-line
returns-then-not-is_small-clause-line c =
    c.requires.empty
    ∙ sym (no_line (versioned c.args.loaded.now c.args.version) (state_of c.args.store.now.store [])
    (sym c.is_small.ensures ∙ c.if-not-is_small.true))

pub returns-then-shows_time-clause-line : goal.returns-then-shows_time-clause-line
returns-then-shows_time-clause-line c =
    let same = c.in_ok-put_place.ensures.same in
    on_ok c.put_time.result
    (λ e. timed (versioned c.args.loaded.now c.args.version) (state_of c.args.store.now.store []) _ _
    (sym c.is_small.ensures ∙ c.if-not-is_small.false)
    (sym (c.shows_time.ensures
    ∙ ap (λ (r : Recording Contents). shows_time c.args.version (memory_of r.store)) same) ∙ c.if-shows_time.true)
    c.in_ok-put_place.ensures.place
    (e ∙ ap (λ (r : Recording Contents). with_time (memory_of r.store) c.put_place.new.text.items) same))
    c.put_time.ensures

pub returns-else-shows_time-clause-line : goal.returns-else-shows_time-clause-line
returns-else-shows_time-clause-line c =
    let same = c.in_ok-put_place.ensures.same in
    on_ok c.put_score.result
    (λ e. scored (versioned c.args.loaded.now c.args.version) (state_of c.args.store.now.store []) _ _
    (sym c.is_small.ensures ∙ c.if-not-is_small.false)
    (sym (c.shows_time.ensures
    ∙ ap (λ (r : Recording Contents). shows_time c.args.version (memory_of r.store)) same) ∙ c.if-shows_time.false)
    c.in_ok-put_place.ensures.place
    (e ∙ ap (λ (r : Recording Contents). with_score (memory_of r.store) c.put_place.new.text.items) same))
    c.put_score.ensures
