-- What the code holds.
use Rattle.std.specs.Prelude.{ℕ, List, map}
use Rattle.std.specs.Borrow.{Bor}
use Rattle.derive_constants.specs.Held.{known_of}
use Rattle.derive_tokens.specs.Held.{names_of}
use Rattle.derive_tokens.specs.Tokens.{numbered}
use Rattle.derive_routines.specs.declared.search.Arm.{Arm as ArmHeld}
use Rattle.derive_routines.specs.declared.search.RoutineName.{RoutineName}
use Rattle.derive_routines.specs.declared.search.RoutineName.TheVariants as routine_names
use Rattle.derive_routines.specs.declared.search.Search.{Search as SearchHeld}
use Rattle.derive_routines.specs.declared.made.Asked.{Asked as AskedHeld}
use Rattle.derive_routines.specs.Search.{Arm, Search}
use Rattle.derive_routines.specs.Made.{Asked}

abbrev pub names_now : List (Bor (List ℕ)) → List (List ℕ)
names_now names = map (λ n. n.now) names

abbrev pub name_held : RoutineName → List ℕ
name_held (routine_names.Plain bytes) = bytes.now
name_held (routine_names.Numbered prefix number) = numbered prefix.now number

abbrev pub arm_of : ArmHeld → Arm
arm_of a = record { value = a.value; routine = name_held a.routine; skipped = a.skipped; count = a.count }

abbrev pub search_of : SearchHeld → Search
search_of x = record {
  routine = x.routine.now;
  locals = names_now x.locals.now;
  first = x.first.now;
  notice = x.notice.now;
}

abbrev pub asked_of : AskedHeld → Asked
asked_of a = record {
  texts = names_of a.texts.now;
  routines = names_of a.routines.now;
  arities = known_of a.arities.now;
  messages = names_of a.messages.now;
  keys = names_of a.keys.now;
  apart = a.apart;
  names = names_of a.names.now;
}
