-- What names stand for. Case is ignored; all names of a file share one space, and a local hides a name of the file in
-- its whole routine.
use Rattle.std.specs.Prelude.{◌+◌, ◌%◌, ◌<◌, ℕ, zero, suc, nat_eq, Bool, true, false, if◌then◌else◌, List}
use Rattle.std.specs.Prelude.{[], ◌∷◌, ◌++◌, codes, length, Option, Some, None, is_some}
use Rattle.std.specs.Cmp.Lexicographic.{pointwise}
use Rattle.ztext.specs.Text.{lower_case}
use Rattle.syntax_lexer.specs.FaultNumbers.{defined_twice}
use Rattle.syntax_trees.specs.Tree as trees
use Rattle.syntax_trees.specs.Tree.{NameTree, ExpressionTree}
use Rattle.syntax_statements.specs.PartTree.{LiteralTree, number_value, word_value, named_value}
use Rattle.syntax_directives.specs.Tree.{DirectiveTree, global, constant, array, attribute, property, object, routine}
use Rattle.checker_values.specs.declared.binding.Binding.{Binding}
use Rattle.checker_values.specs.declared.binding.Binding.TheVariants as bindings
use Rattle.checker_values.specs.declared.breach.Breach.{Breach}
use Rattle.checker_values.specs.declared.counts.Counts.{Counts}
use Rattle.checker_values.specs.declared.known.Known.{Known}
use Rattle.checker_values.specs.declared.known.Known.TheVariants as knowns
use Rattle.checker_values.specs.Breaches.{at}
use Rattle.checker_values.specs.Keys.{key_of_word, value_of_known, or_zero}

-- so many bytes of a name, with zeros after it
abbrev pub padded : ℕ → List ℕ → List ℕ
padded zero s = []
padded (suc n) [] = 0 ∷ padded n []
padded (suc n) (c ∷ s) = lower_case c ∷ padded n s

-- A name has at most 32 bytes. Two names are the same where their keys are.
unfoldable pub key_of : List ℕ → List ℕ
key_of name = padded 32 name

-- the name that an expression is, parentheses apart
abbrev pub name_of : ExpressionTree → Option NameTree
name_of (trees.named n) = Some n
name_of (trees.parenthesised e) = name_of e
name_of _ = None

-- an expression is an entry of an array, a property or a word of a property, parentheses apart
abbrev pub is_place : ExpressionTree → Bool
is_place (trees.index n width e) = true
is_place (trees.parenthesised e) = is_place e
is_place (trees.property e n) = true
is_place (trees.property_entry e n i) = true
is_place _ = false

abbrev pub same_key : List ℕ → List ℕ → Bool
same_key = pointwise nat_eq

-- The names of a file, in order of definition

abbrev pub Table : Type 0
Table = List (List ℕ × Binding)

-- what the first entry with a key stands for
abbrev pub in_table : Table → List ℕ → Option Binding
in_table [] key = None
in_table (entry ∷ entries) key = if same_key entry.0 key then Some entry.1 else in_table entries key

-- a name that is defined twice keeps its first meaning
abbrev pub with_name : Table → NameTree → Binding → Table
with_name table name binding =
    if is_some (in_table table (key_of name.text)) then table
    else table ++ (key_of name.text, binding) ∷ []

-- the property `name` is there from the start
abbrev pub first_table : Table
first_table = (key_of (codes "name"), bindings.Property 1) ∷ []

-- what a name stands for, where it is a constant or an object, which is its number
abbrev pub constant_known : Option Binding → Option Known
constant_known (Some (bindings.Constant known)) = known
constant_known (Some (bindings.Object o)) = Some (knowns.Number (o % 65536))
constant_known _ = None

-- what a literal is, among these names
abbrev pub literal_known : Table → LiteralTree → Option Known
literal_known table (number_value n) = Some (knowns.Number n)
literal_known table (word_value s) = Some (knowns.Key (key_of_word s))
literal_known table (named_value n) = constant_known (in_table table (key_of n.text))

-- a file as its directives see it: its names, and the numbers of keys
pub record File : Type 0 where
  pub table : Table
  pub number : ℕ → ℕ

abbrev pub literal_value : File → LiteralTree → ℕ
literal_value file v = value_of_known file.number (or_zero (literal_known file.table v))

-- In a constant's value a constant stands earlier, but an object may stand anywhere in the file.

abbrev pub is_object : Option Binding → Bool
is_object (Some (bindings.Object o)) = true
is_object _ = false

-- what a name of a constant's value stands for: `before` there, `anywhere` in the file
abbrev pub object_first : Option Binding → Option Binding → Option Binding
object_first before anywhere = if is_object anywhere then anywhere else before

-- what a constant's value is: `whole` has the objects of the file, `table` the names before it
abbrev pub earlier_known : Table → Table → LiteralTree → Option Known
earlier_known whole table (number_value n) = Some (knowns.Number n)
earlier_known whole table (word_value s) = Some (knowns.Key (key_of_word s))
earlier_known whole table (named_value n) =
    constant_known (object_first (in_table table (key_of n.text)) (in_table whole (key_of n.text)))

-- what is defined before the first directive; properties are counted without `name`
abbrev pub no_counts : Counts
no_counts = record { globals = 0; arrays = 0; attributes = 0; properties = 0; objects = 0; routines = 0 }

-- fewer of each kind
pub record AreFewer (n : ℕ) (counts : Counts) : Type 0 where
  pub globals : counts.globals < n
  pub arrays : counts.arrays < n
  pub attributes : counts.attributes < n
  pub properties : counts.properties < n
  pub objects : counts.objects < n
  pub routines : counts.routines < n

-- how many definitions there are after a directive
abbrev pub counts_after : Counts → DirectiveTree → Counts
counts_after counts (global n v) = record counts { globals = counts.globals + 1 }
counts_after counts (constant n v) = counts
counts_after counts (array a) = record counts { arrays = counts.arrays + 1 }
counts_after counts (attribute n) = record counts { attributes = counts.attributes + 1 }
counts_after counts (property n v) = record counts { properties = counts.properties + 1 }
counts_after counts (object o) = record counts { objects = counts.objects + 1 }
counts_after counts (routine r) = record counts { routines = counts.routines + 1 }

-- what the name of a directive stands for, where `whole` has the objects of the file, and these names and so much are
-- defined before it
abbrev pub binding_of : Table → Table → Counts → DirectiveTree → Binding
binding_of whole table counts (global n v) = bindings.Global counts.globals
binding_of whole table counts (constant n v) = bindings.Constant (earlier_known whole table v)
binding_of whole table counts (array a) = bindings.Array counts.arrays a.kind
binding_of whole table counts (attribute n) = bindings.Attribute counts.attributes
binding_of whole table counts (property n v) = bindings.Property (counts.properties + 2)
binding_of whole table counts (object o) = bindings.Object (counts.objects + 1)
binding_of whole table counts (routine r) = bindings.Routine counts.routines (length r.locals)

-- the name that a directive defines
abbrev pub defined_name : DirectiveTree → NameTree
defined_name (global n v) = n
defined_name (constant n v) = n
defined_name (array a) = a.name
defined_name (attribute n) = n
defined_name (property n v) = n
defined_name (object o) = o.name
defined_name (routine r) = r.name

-- the names of a file after a directive
abbrev pub with_directive : Table → Table → Counts → DirectiveTree → Table
with_directive whole table counts d = with_name table (defined_name d) (binding_of whole table counts d)

abbrev pub table_from : Table → Table → Counts → List DirectiveTree → Table
table_from whole table counts [] = table
table_from whole table counts (d ∷ ds) =
    table_from whole (with_directive whole table counts d) (counts_after counts d) ds

-- The names of a file are gathered twice: objects have their numbers after the first time, and what constants are rests
-- on these.
unfoldable pub table_of : List DirectiveTree → Table
table_of directives = table_from (table_from [] first_table no_counts directives) first_table no_counts directives

-- Names in a routine

-- the number of the first local with a key, from a number on
abbrev pub local_from : ℕ → List NameTree → List ℕ → Option ℕ
local_from number [] key = None
local_from number (l ∷ ls) key = if same_key (key_of l.text) key then Some number else local_from (number + 1) ls key

abbrev pub local_first : Option ℕ → Option Binding → Option Binding
local_first (Some number) found = Some (bindings.Local number)
local_first None found = found

-- what a name stands for in a routine with these locals
unfoldable pub look_up : Table → List NameTree → List ℕ → Option Binding
look_up table locals name = local_first (local_from 0 locals (key_of name)) (in_table table (key_of name))

-- a file as a routine sees it: what a name stands for there, and the numbers of keys
pub record Seen : Type 0 where
  pub look : List ℕ → Option Binding
  pub number : ℕ → ℕ

-- what a routine with these locals sees
abbrev pub seen_from : File → List NameTree → Seen
seen_from file locals = record { look = look_up file.table locals; number = file.number }

-- Names that stand twice: in a list, and beside those of a table

-- a name is one of these
abbrev pub has_name : List NameTree → NameTree → Bool
has_name [] name = false
has_name (n ∷ ns) name = if same_key (key_of n.text) (key_of name.text) then true else has_name ns name

-- E22 at the second of two, of the names that follow some
abbrev pub repeated_breaches : List NameTree → List NameTree → List Breach
repeated_breaches before [] = []
repeated_breaches before (n ∷ ns) =
    (if has_name before n then at n.position defined_twice else []) ++ repeated_breaches (before ++ n ∷ []) ns

-- E22 at a name that is defined already, in a table of names
abbrev pub twice : Table → NameTree → List Breach
twice table name = if is_some (in_table table (key_of name.text)) then at name.position defined_twice else []
