-- What stands in a property list, as the code says it.
use Rattle.zcore.specs.Properties.{Property, Standing, Terminator, Listed, Beyond}
use Rattle.tables.specs.declared.properties.ListedProperty.{ListedProperty}
use Rattle.tables.specs.declared.properties.Standing as declared_standing
use Rattle.tables.specs.declared.properties.Standing.TheVariants as code

abbrev pub listed_of : ListedProperty → Property
listed_of p = record { number = p.number; address = p.address; size = p.size }

abbrev pub standing_of : declared_standing.Standing → Standing
standing_of code.Terminator = Terminator
standing_of (code.Listed p) = Listed (listed_of p)
standing_of code.Beyond = Beyond
