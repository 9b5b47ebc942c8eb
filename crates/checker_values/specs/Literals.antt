-- Values that are known before a story runs: the rules that they can break.
use Rattle.std.specs.Prelude.{ℕ, List, [], Option, Some, None}
use Rattle.syntax_lexer.specs.FaultNumbers.{unknown_name, wrong_kind}
use Rattle.syntax_lexer.specs.declared.token.Position.{Position}
use Rattle.syntax_statements.specs.PartTree.{LiteralTree, number_value, word_value, named_value}
use Rattle.checker_values.specs.declared.binding.Binding.{Binding}
use Rattle.checker_values.specs.declared.binding.Binding.TheVariants as bindings
use Rattle.checker_values.specs.declared.breach.Breach.{Breach}
use Rattle.checker_values.specs.Breaches.{at}
use Rattle.checker_values.specs.Names.{Table, File, key_of, in_table, literal_value}

-- a name in what a global or an entry of an array begins with, or in what begins a case, by what it stands for there:
-- it is a constant or an object
abbrev pub constant_breaches : Position → Option Binding → List Breach
constant_breaches p None = at p unknown_name
constant_breaches p (Some (bindings.Constant n)) = []
constant_breaches p (Some (bindings.Object o)) = []
constant_breaches p (Some _) = at p wrong_kind

abbrev pub literal_breaches : Table → LiteralTree → List Breach
literal_breaches whole (number_value n) = []
literal_breaches whole (word_value s) = []
literal_breaches whole (named_value n) = constant_breaches n.position (in_table whole (key_of n.text))

-- what a global begins with

abbrev pub initial_breaches : Table → Option LiteralTree → List Breach
initial_breaches whole None = []
initial_breaches whole (Some v) = literal_breaches whole v

abbrev pub initial_value : File → Option LiteralTree → ℕ
initial_value file None = 0
initial_value file (Some v) = literal_value file v

-- The value of a constant

-- a name in a constant's value that is no constant there, by what it stands for in the file: a later constant is
-- unknown, a later object is a value
abbrev pub later_breaches : Position → Option Binding → List Breach
later_breaches p None = at p unknown_name
later_breaches p (Some (bindings.Constant n)) = at p unknown_name
later_breaches p (Some (bindings.Object o)) = []
later_breaches p (Some _) = at p wrong_kind

-- a name in a constant's value: `before` is what it stands for there, `anywhere` what it stands for in the file
abbrev pub earlier_breaches : Position → Option Binding → Option Binding → List Breach
earlier_breaches p (Some (bindings.Constant n)) anywhere = []
earlier_breaches p (Some (bindings.Object o)) anywhere = []
earlier_breaches p _ anywhere = later_breaches p anywhere

-- `table` has the names before it, `whole` those of the file
abbrev pub named_breaches : Table → Table → LiteralTree → List Breach
named_breaches whole table (number_value n) = []
named_breaches whole table (word_value s) = []
named_breaches whole table (named_value n) = earlier_breaches n.position (in_table table (key_of n.text))
    (in_table whole (key_of n.text))
