use Rattle.std.proofs.Common.{sym, ◌∙◌}
use Rattle.zcore_versions.specs.Versions.{versioned}
use Rattle.machine_versions_words.proofs.LargeKeys.{entry_large, entry_small}
use Rattle.machine_versions_words.proofs.search.entry_for.Goals as goal

pub returns-then-is_small : goal.returns-then-is_small
returns-then-is_small c = entry_small (versioned c.args.loaded.now c.args.version) c.args.memory.now _ c.args.dictionary
    _ c.args.word.now (sym c.is_small.ensures ∙ c.if-is_small.true) c.small_key.ensures c.find_small.ensures

pub returns-else-is_small : goal.returns-else-is_small
returns-else-is_small c = c.entry_with_form.ensures
    ∙ entry_large (versioned c.args.loaded.now c.args.version) c.args.memory.now c.args.dictionary c.args.word.now
    (sym c.is_small.ensures ∙ c.if-is_small.false)
