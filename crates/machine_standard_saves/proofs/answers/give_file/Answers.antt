use Rattle.machine_standard_saves.proofs.Growing.{grew_none}
use Rattle.std.proofs.Common.{◌≡◌, ℕ, List, ap, sym, ◌∙◌, slice_index, set, subst}
use Rattle.machine_frames.specs.Contents.{Contents}
use Rattle.machine_frames.specs.States.{IsSound}
use Rattle.machine_frames.proofs.Steps.{store_after}
use Rattle.machine_lines.proofs.Lines.{base_kept}
use Rattle.machine_standard_saves.proofs.GivenFiles.{purpose_is, saves_kept, takes_file}
use Rattle.machine_standard_saves.proofs.answers.give_file.Goals as goal

pub give_saved-requires-clause-store : goal.give_saved-requires-clause-store
give_saved-requires-clause-store c = store_after c.requires.store c.in_ok-stop_asking.ensures.waits.goes_on

pub returns-in-Saving-clause-told : goal.returns-in-Saving-clause-told
returns-in-Saving-clause-told c = λ pending waits.
    takes_file c.give_saved.result c.args.loaded.now c.args.form _ c.place_in.result c.args.fuel pending c.args.given.now
    c.args.text.now.items _ c.in_ok-stop_asking.ensures.waits
    (sym c.in-Saving.is ∙ purpose_is (slice_index c.args.store.now.store.cells) pending _ c.cell.result c.cell.ensures
    c.purpose_of-purpose.ensures waits) (c.place_in.ensures.place pending waits) c.give_saved.ensures.told

pub give_restored-requires-clause-store : goal.give_restored-requires-clause-store
give_restored-requires-clause-store c = store_after c.requires.store c.in_ok-stop_asking.ensures.waits.goes_on

pub give_restored-requires-clause-saves : goal.give_restored-requires-clause-saves
give_restored-requires-clause-saves c =
    saves_kept c.args.loaded.now c.args.store.now c.stop_asking.new.store c.in_ok-stop_asking.ensures.waits.goes_on
    c.requires.saves

pub give_restored-requires-clause-loaded : goal.give_restored-requires-clause-loaded
give_restored-requires-clause-loaded c =
    c.requires.loaded ∙ sym (base_kept _ _ c.in_ok-stop_asking.ensures.waits.goes_on)

pub give_restored-requires-clause-begun : goal.give_restored-requires-clause-begun
give_restored-requires-clause-begun c =
    let goes = c.in_ok-stop_asking.ensures.waits.goes_on in
    let old = c.args.store.now in
    let same : old.store.cells ≡ c.stop_asking.new.store.beginning = sym c.requires.begun ∙ sym goes.beginning in
    record {
      cells = c.in_ok-stop_asking.ensures.cells ∙ ap (λ (l : List ℕ). set l 5 0) same;
      sound = subst (λ (x : Contents). IsSound x)
          (λ i. record { cells = same i; fixed = (sym goes.fixed) i }) c.requires.store.sound;
    }

pub returns-in-Restoring-clause-told : goal.returns-in-Restoring-clause-told
returns-in-Restoring-clause-told c = λ pending waits.
    takes_file c.give_restored.result c.args.loaded.now c.args.form _ c.place_in.result c.args.fuel pending
    c.args.given.now c.args.text.now.items _ c.in_ok-stop_asking.ensures.waits
    (sym c.in-Restoring.is ∙ purpose_is (slice_index c.args.store.now.store.cells) pending _ c.cell.result c.cell.ensures
    c.purpose_of-purpose.ensures waits) (c.place_in.ensures.place pending waits) c.give_restored.ensures.told

pub returns-in_err-stop_asking-clause-text : goal.returns-in_err-stop_asking-clause-text
returns-in_err-stop_asking-clause-text c = grew_none _ _
