use Rattle.machine_small_entries.proofs.Values.{table_read}
use Rattle.machine_versions.proofs.properties.table_of.Goals as goal

pub returns : goal.returns
returns c = table_read c.args.header.now _ _ c.args.object _ c.requires c.properties_place.ensures
    c.read_word_at.ensures
