use Rattle.tables.specs.Links.{as_link}
use Rattle.machine_small_entries.proofs.SmallEntries.{link_read}
use Rattle.machine_versions.proofs.links.read_link.Goals as goal

pub returns : goal.returns
returns c = link_read c.args.header.now _ _ (as_link c.args.link) _ c.requires c.link_place.ensures c.read_byte.ensures
