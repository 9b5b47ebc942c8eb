use Rattle.std.proofs.Common.{◌-◌, ℕ, List, [], length, ap, ◌∙◌, Ok, Err}
use Rattle.zcore_standard.specs.SavedStates.{file_of}
use Rattle.machine_frames.specs.States.{state_of}
use Rattle.machine_standard_windows.specs.TurnState.{place}
use Rattle.machine_standard_saves.proofs.KeptFiles.{gave_up, kept_in, saved_went, unsaved_went, went_seen_err}
use Rattle.machine_standard_saves.proofs.keeping.save_undo.Goals as goal

pub file_of-requires-clause-dynamic : goal.file_of-requires-clause-dynamic
file_of-requires-clause-dynamic c = ap length c.dynamic.ensures ∙ c.requires.dynamic

pub returns-in-None-clause-went : goal.returns-in-None-clause-went
returns-in-None-clause-went c =
    unsaved_went c.give_result.result c.args.loaded.now (place c.args.turn.now c.args.here) c.args.after c.args.variable
    (rw c.in-None.is at c.in-Ok.ensures) c.give_result.ensures

pub returns-in_err-next-clause-went : goal.returns-in_err-next-clause-went
returns-in_err-next-clause-went c =
    let both = rw c.in-Some.is at c.in-Ok.ensures in
    went_seen_err (place c.args.turn.now) _ c.from_residual.ensures.1
    (saved_went (Err _) c.args.loaded.now (place c.args.turn.now c.args.here) c.args.after c.args.variable _ _ both.0
    (both.1 ∙ ap (λ (l : List ℕ). file_of l c.saturating_sub.result (state_of c.args.store.now.store [])) c.dynamic.ensures
    ∙ ap (λ (n : ℕ). file_of c.args.loaded.now.dynamic n (state_of c.args.store.now.store [])) c.saturating_sub.ensures)
    (c.len.ensures ∙ c.in-Some.file.ok.0) c.in_err-next.ensures)

pub returns-in_err-keep-clause-went : goal.returns-in_err-keep-clause-went
returns-in_err-keep-clause-went c =
    gave_up (place c.keep.new.turn) _ _ c.from_residual-in_err-keep.ensures.1 c.in_ok-next.ensures.did.0
    c.in_err-keep.ensures.given_up

pub returns-clause-went : goal.returns-clause-went
returns-clause-went c =
    let both = rw c.in-Some.is at c.in-Ok.ensures in
    kept_in c.args.turn.now _ c.args.here c.in_ok-next.next _ _ c.in_ok-keep.ensures.kept c.in_ok-keep.ensures.same
    (saved_went (Ok c.in_ok-next.next) c.args.loaded.now (place c.args.turn.now c.args.here) c.args.after c.args.variable
    _ _ both.0
    (both.1 ∙ ap (λ (l : List ℕ). file_of l c.saturating_sub.result (state_of c.args.store.now.store [])) c.dynamic.ensures
    ∙ ap (λ (n : ℕ). file_of c.args.loaded.now.dynamic n (state_of c.args.store.now.store [])) c.saturating_sub.ensures)
    (c.len.ensures ∙ c.in-Some.file.ok.0) c.in_ok-next.ensures)
