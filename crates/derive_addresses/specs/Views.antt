-- What the code holds.
use Rattle.derive_tokens.specs.Held.{names_of}
use Rattle.derive_routines.specs.Held.{names_now}
use Rattle.derive_addresses.specs.declared.made.Access.{Access as AccessHeld}
use Rattle.derive_addresses.specs.declared.places.Placed.{Placed as PlacedHeld}
use Rattle.derive_addresses.specs.Addresses.{Placed}
use Rattle.derive_addresses.specs.Made.{Access}

abbrev pub placed_of : PlacedHeld → Placed
placed_of p = record {
  arrays = names_of p.arrays;
  values = names_of p.values;
  properties = names_of p.properties;
  places = names_of p.places;
}

abbrev pub access_of : AccessHeld → Access
access_of a = record {
  routine = a.routine.now;
  locals = names_now a.locals.now;
  prefix = a.prefix.now;
  start = a.start.now;
  rest = a.rest.now;
}
