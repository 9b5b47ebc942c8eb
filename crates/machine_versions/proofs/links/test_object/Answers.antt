use Rattle.std.proofs.Common.{sym, ◌∙◌}
use Rattle.machine_small_entries.proofs.SmallEntries.{object_tested, object_missing, number_is_byte}
use Rattle.machine_versions.proofs.links.test_object.Goals as goal

pub returns-then-not-has_entry-clause-tested : goal.returns-then-not-has_entry-clause-tested
returns-then-not-has_entry-clause-tested c = object_missing c.args.header.now _ c.args.object c.requires
    (sym c.has_entry.ensures ∙ c.if-not-has_entry.true)

pub returns-clause-tested : goal.returns-clause-tested
returns-clause-tested c = object_tested c.args.header.now _ c.args.object c.requires
    (sym c.has_entry.ensures ∙ c.if-not-has_entry.false)

pub returns-clause-byte : goal.returns-clause-byte
returns-clause-byte c = number_is_byte c.args.header.now.defaults c.args.header.now.static_base c.args.object
    (sym c.has_entry.ensures ∙ c.if-not-has_entry.false)
