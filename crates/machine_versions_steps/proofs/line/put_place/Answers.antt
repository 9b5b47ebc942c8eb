use Rattle.std.proofs.Common.{[], ◌∷◌, ◌++◌, ap, ◌∙◌}
use Rattle.machine_frames.specs.States.{state_of}
use Rattle.zcore_versions.specs.StatusLine.{filled, on_one_line, place_shown, second_column, short_name}
use Rattle.zcore_versions.specs.Versions.{versioned}
use Rattle.machine_versions_steps.proofs.Columns.{on_ok}
use Rattle.machine_versions_steps.proofs.line.put_place.Goals as goal

pub returns-clause-place : goal.returns-clause-place
unfolding place_shown
returns-clause-place c = on_ok c.fill.result
    (λ e. e ∙ ap (filled second_column) (c.in_ok-put_name.ensures.name
    ∙ ap (λ l. l ++ on_one_line (short_name (versioned c.args.loaded.now c.args.version)
    (state_of c.args.store.now.store []) c.global-object.result)) (c.in_ok-put.ensures ∙ ap (λ l. l ++ 32 ∷ []) c.requires.empty)
    ∙ ap (λ n. 32 ∷ on_one_line (short_name (versioned c.args.loaded.now c.args.version)
    (state_of c.args.store.now.store []) n)) c.global-object.ensures))
    c.fill.ensures
