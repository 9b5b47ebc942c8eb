use Rattle.std.proofs.Common.{sym, ◌∙◌}
use Rattle.zcore_versions.specs.Versions.{versioned}
use Rattle.machine_versions_words.proofs.Handing.{waits_older, waits_later, told_older, told_later}
use Rattle.machine_versions_words.proofs.given.give_line.Goals as goal

pub give_older-requires-clause-waiting : goal.give_older-requires-clause-waiting
give_older-requires-clause-waiting c = waits_older (versioned c.args.loaded.now c.args.version) c.args.store.now.store
    (sym c.is_old.ensures ∙ c.if-is_old.true) c.requires.waiting

pub give_typed-requires-clause-waiting : goal.give_typed-requires-clause-waiting
give_typed-requires-clause-waiting c = waits_later (versioned c.args.loaded.now c.args.version) c.args.store.now.store
    (sym c.is_old.ensures ∙ c.if-is_old.false) c.requires.waiting

pub returns-then-is_old : goal.returns-then-is_old
returns-then-is_old c = told_older _ _ _ (versioned c.args.loaded.now c.args.version) c.args.line.now c.args.fuel
    (sym c.is_old.ensures ∙ c.if-is_old.true) c.give_older.ensures

pub returns-else-is_old : goal.returns-else-is_old
returns-else-is_old c = told_later _ _ _ (versioned c.args.loaded.now c.args.version) c.args.line.now c.args.fuel
    (sym c.is_old.ensures ∙ c.if-is_old.false) c.give_typed.ensures
