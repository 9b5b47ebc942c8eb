-- What the code holds.
use Rattle.std.specs.Prelude.{reverse}
use Rattle.derive_tokens.specs.Pieces.{derived}
use Rattle.derive_values.specs.Views.{reading_of}
use Rattle.derive_entries.specs.declared.arrays.Placing.{Placing as PlacingHeld}
use Rattle.derive_entries.specs.declared.entries.Entering.{Entering as EnteringHeld}
use Rattle.derive_entries.specs.declared.operands.Look.{Look as LookHeld}
use Rattle.derive_entries.specs.declared.operands.Look.TheVariants as looks
use Rattle.derive_entries.specs.Arrays.{Placing}
use Rattle.derive_entries.specs.Entries.{Entering}
use Rattle.derive_entries.specs.Operands.{Look, sought, indexed, taken, assigned, none}

abbrev pub placing_of : PlacingHeld → Placing
placing_of p = record { reading = reading_of p.reading; keeping = p.keeping }

abbrev pub entering_of : EnteringHeld → Entering
entering_of e = record { placing = placing_of e.placing; frame = e.frame; outer = reverse e.outer.items }

abbrev pub look_held : LookHeld → Look
look_held (looks.Sought part depth) = sought part depth
look_held (looks.Indexed arrow part depth) = indexed (derived arrow) part depth
look_held (looks.Taken arrow) = taken (derived arrow)
look_held (looks.Assigned arrow) = assigned (derived arrow)
look_held looks.Nothing = none
