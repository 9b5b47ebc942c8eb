use Rattle.tables.specs.Links.{as_link}
use Rattle.machine_small_entries.proofs.SmallEntries.{link_written}
use Rattle.machine_versions.proofs.links.write_link.Goals as goal

pub returns : goal.returns
returns c = link_written c.args.header.now _ _ _ (as_link c.args.link) _ c.args.object c.requires
    c.link_place.ensures c.write_byte.ensures
