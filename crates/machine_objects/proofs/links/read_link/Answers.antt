use Rattle.std.proofs.Common.{arith}
use Rattle.tables.specs.Links.{as_link}
use Rattle.machine_objects.proofs.Linking.{link_read, link_inside}
use Rattle.machine_objects.proofs.links.read_link.Goals as goal

pub read_word-requires-clause-address : goal.read_word-requires-clause-address
read_word-requires-clause-address c =
    let inside = link_inside c.args.header.now.defaults c.args.header.now.static_base (as_link c.args.link)
    c.requires.entry.entry in
    omega (arith, inside, c.link_place.ensures, c.requires.entry.low)

pub returns : goal.returns
returns c = link_read c.args.header.now _ _ (as_link c.args.link) _ c.requires.store c.link_place.ensures
    c.read_word.ensures
