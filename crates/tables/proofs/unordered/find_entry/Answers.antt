use Rattle.zcore.specs.Dictionary.{number_of_key}
use Rattle.tables.proofs.FirstEntries.{first_found, none_readable}
use Rattle.tables.proofs.unordered.find_entry.Goals as goal

pub returns-then-is_ordered : goal.returns-then-is_ordered
returns-then-is_ordered c = (c.lookup.ensures (c.requires c.if-is_ordered.true)).entry

pub returns-in-Some : goal.returns-in-Some
unfolding number_of_key
returns-in-Some c = first_found c.args.story.now c.args.dictionary c.in-Some.entries _ _ c.find_first.result
    c.in-Some.ensures c.read_u48.ensures c.find_first.ensures

pub returns-in-None : goal.returns-in-None
returns-in-None c = none_readable c.args.story.now c.args.dictionary _ c.in-None.ensures
