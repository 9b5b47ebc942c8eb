use Rattle.std.proofs.Common.{length, refl}
use Rattle.checker_values.specs.Scope.{file_in}
use Rattle.checker_statements.proofs.ArrayBytes.{listed_breaks, listed_adds}
use Rattle.checker_statements.proofs.array_rules.add_listed.Goals as goal

pub returns-clause-bytes : goal.returns-clause-bytes
returns-clause-bytes c =
    listed_adds (file_in c.args.file.now) c.args.kind c.args.values.now (length c.args.values.now) c.width_of.result
    c.args.bytes.now.items c.add_number.new.bytes.items c.add_entries.new.bytes.items c.requires.several refl
    c.width_of.ensures c.in_ok-add_number.ensures c.in_ok-add_entries.ensures.bytes

pub returns-clause-breaches : goal.returns-clause-breaches
returns-clause-breaches c =
    listed_breaks c.args.file.now.table.entries c.args.position c.args.kind c.args.values.now (length c.args.values.now)
    c.width_of.result c.args.tally.now c.count_rule.new.tally c.add_entries.new.tally c.requires.several refl
    c.width_of.ensures c.count_rule.ensures c.in_ok-add_entries.ensures.breaches
