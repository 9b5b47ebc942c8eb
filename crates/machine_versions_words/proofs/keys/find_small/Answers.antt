use Rattle.std.proofs.Common.{sym, ◌∙◌}
use Rattle.machine_versions_words.proofs.SmallEntries.{dictionary_is, keys_within, first_found, none_readable}
use Rattle.machine_versions_words.proofs.keys.find_small.Goals as goal

pub returns-then-not-are_keys_within : goal.returns-then-not-are_keys_within
returns-then-not-are_keys_within c = none_readable c.args.memory.now c.args.dictionary _
    (sym (dictionary_is 4 c.args.memory.now c.args.dictionary c.end_of_static.result c.entries_at-entries.result _
    c.requires c.entries_at-entries.ensures c.end_of_static.ensures c.are_keys_within.ensures)
    ∙ c.if-not-are_keys_within.true)

pub find_first-requires : goal.find_first-requires
find_first-requires c = keys_within c.args.memory.now c.args.dictionary c.end_of_static.result
    c.entries_at-entries.result c.entries_at-entries.ensures c.end_of_static.ensures
    (sym c.are_keys_within.ensures ∙ c.if-not-are_keys_within.false)

pub returns : goal.returns
returns c = first_found c.args.memory.now c.args.dictionary c.entries_at-entries.result _ _ c.find_first.result
    c.entries_at-entries.ensures
    (sym (dictionary_is 4 c.args.memory.now c.args.dictionary c.end_of_static.result c.entries_at-entries.result _
    c.requires c.entries_at-entries.ensures c.end_of_static.ensures c.are_keys_within.ensures)
    ∙ c.if-not-are_keys_within.false) c.read_u32.ensures c.find_first.ensures
