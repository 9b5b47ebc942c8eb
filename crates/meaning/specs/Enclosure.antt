-- What a statement stands in.
use Rattle.std.specs.Prelude.{true, false}
use Rattle.meaning.specs.declared.enclosure.Enclosure.{Enclosure}

abbrev pub outside : Enclosure
outside = record { can_break = false; can_continue = false }

abbrev pub in_loop : Enclosure
in_loop = record { can_break = true; can_continue = true }

-- a `switch` takes `break`, and leaves `continue` to the loop around it
abbrev pub in_switch : Enclosure → Enclosure
in_switch around = record around { can_break = true }
