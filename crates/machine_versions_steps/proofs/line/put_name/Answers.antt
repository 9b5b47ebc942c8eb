use Rattle.std.proofs.Common.{sym, ◌∙◌}
use Rattle.zcore_versions.specs.Versions.{versioned}
use Rattle.machine_versions_steps.proofs.Naming.{beginning_kept, given_up_is, name_added, no_name_added, stopped}
use Rattle.machine_versions_steps.proofs.line.put_name.Goals as goal

pub returns-in-Ok-clause-name : goal.returns-in-Ok-clause-name
returns-in-Ok-clause-name c = name_added (versioned c.args.loaded.now c.args.version) c.args.store.now.store
    c.print_object-printed.new.store.store c.args.text.now.items c.print_object-printed.new.text.items _ c.args.object
    c.len-start.result _ (c.len-start.ensures ∙ c.args.text.now.ok.0)
    c.in-Ok.ensures.told.told.1 c.print_object-printed.ensures.text.front c.join_lines.ensures

pub returns-in-Err-Stop-clause-name : goal.returns-in-Err-Stop-clause-name
returns-in-Err-Stop-clause-name c = no_name_added (versioned c.args.loaded.now c.args.version) c.args.store.now.store
    c.print_object-printed.new.store.store c.args.text.now.items c.print_object-printed.new.text.items _ c.args.object
    c.len-start.result _ (c.len-start.ensures ∙ c.args.text.now.ok.0)
    (stopped _ _ c.in-Err-Stop.field-0-0 c.args.store.now c.print_object-printed.new.store _ _ _ c.in-Err-Stop.is
    (rw c.in-Err-Stop.is at c.in-Err-Stop.field-0-is) c.print_object-printed.ensures.told.told)
    c.print_object-printed.ensures.text.front c.truncate.ensures.items

pub returns-in-Ok-clause-same : goal.returns-in-Ok-clause-same
returns-in-Ok-clause-same c =
    let b = beginning_kept _ _ _ _ _ _ c.print_object-printed.ensures.told.told in
    given_up_is _ _ (c.abandon.ensures.cells ∙ b.0 ∙ c.requires.begun) (c.abandon.ensures.fixed ∙ b.1)
    (c.abandon.ensures.beginning ∙ b.0) (c.abandon.ensures.kept ∙ sym c.requires.idle)

pub returns-in-Err-Stop-clause-same : goal.returns-in-Err-Stop-clause-same
returns-in-Err-Stop-clause-same c =
    let b = beginning_kept _ _ _ _ _ _ c.print_object-printed.ensures.told.told in
    given_up_is _ _ (c.abandon.ensures.cells ∙ b.0 ∙ c.requires.begun) (c.abandon.ensures.fixed ∙ b.1)
    (c.abandon.ensures.beginning ∙ b.0) (c.abandon.ensures.kept ∙ sym c.requires.idle)

pub returns-in-Err-Memory-clause-same : goal.returns-in-Err-Memory-clause-same
returns-in-Err-Memory-clause-same c =
    let b = beginning_kept _ _ _ _ _ _ c.print_object-printed.ensures.told.told in
    given_up_is _ _ (c.abandon.ensures.cells ∙ b.0 ∙ c.requires.begun) (c.abandon.ensures.fixed ∙ b.1)
    (c.abandon.ensures.beginning ∙ b.0) (c.abandon.ensures.kept ∙ sym c.requires.idle)
