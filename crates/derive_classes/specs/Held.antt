-- What the code holds.
use Rattle.std.specs.Prelude.{ℕ, List, map}
use Rattle.derive_tokens.specs.Pieces.{derived_all}
use Rattle.derive_classes.specs.declared.classes.Class.{Class}
use Rattle.derive_classes.specs.declared.classes.Traits.{Traits as TraitsHeld}
use Rattle.derive_classes.specs.Classes.{Known, Traits}

abbrev pub traits_of : TraitsHeld → Traits
traits_of c = record { properties = derived_all c.properties.items; given = derived_all c.given.items }

abbrev pub known_one : Class → List ℕ × Traits
known_one c = (c.name.items, traits_of c.traits)

abbrev pub known_of : List Class → Known
known_of classes = map known_one classes
