-- A link of an object, as the code says it.
use Rattle.zcore.specs.Entries.{Link, Parent, Sibling, Child}
use Rattle.tables.specs.declared.link.Link as declared_link
use Rattle.tables.specs.declared.link.Link.TheVariants as code

abbrev pub as_link : declared_link.Link → Link
as_link (code.Parent object) = Parent object
as_link (code.Sibling object) = Sibling object
as_link (code.Child object) = Child object
