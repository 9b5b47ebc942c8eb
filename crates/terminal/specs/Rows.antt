-- Arguments that are made of the rows of a table.
use Rattle.std.specs.Prelude.{◌≡◌, ◌++◌, List, [], ◌∷◌, Some, pos, ⊤}
use Rattle.clap.specs.declared.builder.arg.Arg.{Arg}
use Rattle.clap.specs.declared.builder.value_parser.ValueParser.{ValueParser}
use Rattle.clap.specs.declared.builder.value_parser.ValueParser.TheVariants.{Bool, Signed, String}
use Rattle.terminal.specs.Arguments.{IsNamed}
use Rattle.terminal.specs.Range.{least_fuel, most_fuel, most_undo}
use Rattle.terminal.specs.declared.parts.Row.{Row}
use Rattle.terminal.specs.declared.parts.Value.{Value}
use Rattle.terminal.specs.declared.parts.Value.TheVariants.{Nothing, Text, Number}

-- how `clap` tests a value
abbrev pub parser_of : Value → ValueParser
parser_of Nothing = Bool
parser_of Text = String
parser_of (Number least most) = Signed least most

-- the argument has the row's name, is in no group and not global, and its value is tested as the row says
abbrev pub IsOfRow : Row → Arg → Type 0
IsOfRow row a = IsNamed row.name.now a × (a.value_parser ≡ Some (parser_of row.value))

abbrev pub AreOfRows : List Row → List Arg → Type 0
AreOfRows [] [] = ⊤
AreOfRows (row ∷ rows) (a ∷ given) = IsOfRow row a × AreOfRows rows given
AreOfRows _ _ = ⊥

-- an argument of the row comes after those before
abbrev pub AddsOfRow : Row → List Arg → List Arg → Type 0
AddsOfRow row old new = (a : Arg) × (new ≡ old ++ a ∷ []) × IsOfRow row a

-- the first two rows are those of fuel and undo
abbrev pub BeginsWithNumbers : List Row → Type 0
BeginsWithNumbers (fuel ∷ undo ∷ _) =
    (fuel.value ≡ Number (pos least_fuel) (pos most_fuel)) × (undo.value ≡ Number (pos 0) (pos most_undo))
BeginsWithNumbers _ = ⊥
