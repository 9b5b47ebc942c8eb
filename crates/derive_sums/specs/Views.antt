-- What the code holds of alternatives.
use Rattle.std.specs.Prelude.{◌+◌, ℕ}
use Rattle.derive_tokens.specs.Pieces.{derived}
use Rattle.derive_sums.specs.declared.looking.Shape.{Shape as ShapeHeld}
use Rattle.derive_sums.specs.declared.looking.Shape.TheVariants as shapes
use Rattle.derive_sums.specs.declared.counting.Count.{Count as CountHeld}
use Rattle.derive_sums.specs.declared.counting.Part.{Part}
use Rattle.derive_sums.specs.declared.counting.Part.TheVariants as parts
use Rattle.derive_sums.specs.Sums.{Shape, before, after, names_begin, name_read, or_read, found, none, Count}

abbrev pub shape_held : ShapeHeld → Shape
shape_held (shapes.Before depth) = before depth
shape_held (shapes.After operator depth) = after (derived operator) depth
shape_held (shapes.NamesBegin operator) = names_begin (derived operator)
shape_held (shapes.NameRead operator) = name_read (derived operator)
shape_held (shapes.OrRead operator) = or_read (derived operator)
shape_held (shapes.Found operator) = found (derived operator)
shape_held shapes.Nothing = none

abbrev pub count_held : CountHeld → Count
count_held c = record { part = c.part; met = c.met; names = c.names.items }

-- how many brackets are open
abbrev pub depth_in : Part → ℕ
depth_in (parts.Sought depth) = depth
depth_in (parts.Sums depth) = depth
depth_in _ = 0

-- at least so many tokens were read where so many names or `or` were met
abbrev pub read_in : Part → ℕ → ℕ
read_in (parts.Sought depth) met = met + met
read_in parts.Name met = met + met + 1
read_in parts.Or met = met + met
read_in (parts.Sums depth) met = met + 1
