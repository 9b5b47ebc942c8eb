-- Definitions of objects: the rules that they can break, and what they are.
use Rattle.std.specs.Prelude.{◌==◌, ◌+◌, ◌-◌, ◌%◌, ℕ, zero, suc, nat_le, nat_lt, Bool, false, if◌then◌else◌, List, []}
use Rattle.std.specs.Prelude.{◌∷◌, ◌++◌, map, length, slice_get, Option, Some, None}
use Rattle.std.specs.List.{flat_map}
use Rattle.syntax_lexer.specs.FaultNumbers.{defined_twice, too_many, unknown_name, wrong_kind}
use Rattle.syntax_lexer.specs.declared.token.Position.{Position}
use Rattle.syntax_trees.specs.Tree.{NameTree}
use Rattle.syntax_directives.specs.Tree.{ValueTree, TextTree, PropertyTree, ObjectTree, DirectiveTree, object}
use Rattle.meaning.specs.Objects.{ObjectOf}
use Rattle.meaning.specs.Places.{name_words}
use Rattle.meaning.specs.Limits.{longest_short_name, most_properties, most_property_words}
use Rattle.checker_values.specs.declared.binding.Binding.{Binding}
use Rattle.checker_values.specs.declared.binding.Binding.TheVariants as bindings
use Rattle.checker_values.specs.declared.breach.Breach.{Breach}
use Rattle.checker_values.specs.Breaches.{at}
use Rattle.checker_values.specs.Names.{Table, File, has_name, key_of, in_table, literal_value, repeated_breaches}
use Rattle.checker_values.specs.Literals.{literal_breaches}
use Rattle.checker_values.specs.Expressions.{attribute_breaches, property_breaches, attribute_of_binding}
use Rattle.checker_values.specs.Expressions.{property_of_binding}

-- What an object provides

-- E24 at the 33rd value of a property, and at the name of one without a value, which the grammar does not have
abbrev pub excess_breaches : Option ValueTree → List Breach
excess_breaches None = []
excess_breaches (Some v) = at v.position too_many

abbrev pub count_breaches : Position → List ValueTree → List Breach
count_breaches p [] = at p too_many
count_breaches p (v ∷ vs) = excess_breaches (slice_get (v ∷ vs) most_property_words)

abbrev pub value_breaches : Table → ValueTree → List Breach
value_breaches whole v = literal_breaches whole v.value

-- a name that is no property is E20 or E23, as it is in an expression
abbrev pub provided_breaches : Table → PropertyTree → List Breach
provided_breaches whole x =
    property_breaches x.name.position (in_table whole (key_of x.name.text))
    ++ (count_breaches x.name.position x.values ++ flat_map (value_breaches whole) x.values)

abbrev pub property_name : PropertyTree → NameTree
property_name x = x.name

-- and so is a name that is no attribute
abbrev pub given_breaches : Table → NameTree → List Breach
given_breaches whole n = attribute_breaches n.position (in_table whole (key_of n.text))

-- E24 at a short name of more than 255 words of Z-text
abbrev pub short_breaches : Option TextTree → List Breach
short_breaches None = []
short_breaches (Some s) = if nat_le (name_words s.bytes) longest_short_name then [] else at s.position too_many

-- E22 at the second of two properties of one name
abbrev pub object_breaches : Table → ObjectTree → List Breach
object_breaches whole o =
    short_breaches o.short
    ++ (repeated_breaches [] (map property_name o.properties)
    ++ (flat_map (provided_breaches whole) o.properties ++ flat_map (given_breaches whole) o.attributes))

-- E22 at a name that stands among those before it
abbrev pub again : List NameTree → NameTree → List Breach
again before name = if has_name before name then at name.position defined_twice else []

-- Where an object stands
--
-- Objects are numbered from 1. Of those so far, an object is open if none after it has as few arrows as it or fewer.
-- The open ones stand with the outermost first, each with its arrows and its number.

abbrev pub Open : Type 0
Open = List (ℕ × ℕ)

-- those that have fewer than so many arrows: the last of them is the latest of all objects so far that has
abbrev pub open_to : ℕ → Open → Open
open_to n [] = []
open_to n (x ∷ xs) = if nat_lt x.0 n then x ∷ open_to n xs else []

-- the latest of them
abbrev pub above_of : ℕ → Open → Option (ℕ × ℕ)
above_of n chain = slice_get (open_to n chain) (length (open_to n chain) - 1)

-- the open objects after one of so many arrows, where there were so many objects before it
abbrev pub opened : ℕ → ℕ → Open → Open
opened n before chain = open_to n chain ++ (n, before + 1) ∷ []

-- E20 at the first arrow, where no object before has fewer arrows, or the latest that has has not just one less
abbrev pub is_next : Option (ℕ × ℕ) → ℕ → Bool
is_next None n = false
is_next (Some x) n = x.0 + 1 == n

abbrev pub arrow_breaches : Option (ℕ × ℕ) → List Position → List Breach
arrow_breaches above [] = []
arrow_breaches above (p ∷ ps) = if is_next above (length (p ∷ ps)) then [] else at p unknown_name

-- a parent that is named: one of the objects before, of which there are so many
abbrev pub parent_breaches : Position → ℕ → Option Binding → List Breach
parent_breaches p before None = at p unknown_name
parent_breaches p before (Some (bindings.Object o)) = if nat_le o before then [] else at p unknown_name
parent_breaches p before (Some _) = at p wrong_kind

abbrev pub named_parent_breaches : Table → ℕ → Option NameTree → List Breach
named_parent_breaches whole before None = []
named_parent_breaches whole before (Some n) = parent_breaches n.position before (in_table whole (key_of n.text))

-- of an object that follows so many, with those that are open
abbrev pub stand_breaches : Table → Open → ℕ → ObjectTree → List Breach
stand_breaches whole chain before o = arrow_breaches (above_of (length o.arrows) chain) o.arrows
    ++ named_parent_breaches whole before o.parent

abbrev pub standing_from : Table → Open → ℕ → List ObjectTree → List Breach
standing_from whole chain before [] = []
standing_from whole chain before (o ∷ os) =
    stand_breaches whole chain before o ++ standing_from whole (opened (length o.arrows) before chain) (before + 1) os

abbrev pub standing_breaches : Table → List ObjectTree → List Breach
standing_breaches whole os = standing_from whole [] 0 os

-- What objects are

abbrev pub word_of : File → ValueTree → ℕ
word_of file v = literal_value file v.value % 65536

-- Properties stand in descending order of their numbers.
abbrev pub with_property : ℕ × List ℕ → List (ℕ × List ℕ) → List (ℕ × List ℕ)
with_property x [] = x ∷ []
with_property x (y ∷ ys) = if nat_lt y.0 x.0 then x ∷ y ∷ ys else y ∷ with_property x ys

-- how many stand before a property of this number
abbrev pub place_below : ℕ → List (ℕ × List ℕ) → ℕ
place_below n [] = 0
place_below n (y ∷ ys) = if nat_lt y.0 n then 0 else suc (place_below n ys)

abbrev pub provided_of : File → PropertyTree → ℕ × List ℕ
provided_of file x =
    (property_of_binding (in_table file.table (key_of x.name.text)) % 256, map (word_of file) x.values)

abbrev pub with_properties : File → List (ℕ × List ℕ) → List PropertyTree → List (ℕ × List ℕ)
with_properties file found [] = found
with_properties file found (x ∷ xs) = with_properties file (with_property (provided_of file x) found) xs

abbrev pub given_of : File → NameTree → ℕ
given_of file n = attribute_of_binding (in_table file.table (key_of n.text)) % 256

abbrev pub short_name : Option TextTree → List ℕ
short_name None = []
short_name (Some s) = s.bytes

-- an object, still without its parent
abbrev pub object_in : File → ObjectTree → ObjectOf
object_in file o = record {
  parent = 0;
  name = short_name o.short;
  attributes = map (given_of file) o.attributes;
  properties = with_properties file [] o.properties;
}

-- the parent by arrows, 0 for none
abbrev pub above_number : Option (ℕ × ℕ) → ℕ
above_number None = 0
above_number (Some x) = x.1

abbrev pub object_of_binding : Option Binding → ℕ
object_of_binding (Some (bindings.Object o)) = o
object_of_binding _ = 0

-- the parent of an object: `above` is the one by arrows
abbrev pub parent_number : Table → Option (ℕ × ℕ) → Option NameTree → ℕ
parent_number whole above None = above_number above
parent_number whole above (Some n) = object_of_binding (in_table whole (key_of n.text))

abbrev pub parents_from : Table → Open → ℕ → List ObjectTree → List ℕ
parents_from whole chain before [] = []
parents_from whole chain before (o ∷ os) =
    parent_number whole (above_of (length o.arrows) chain) o.parent % 65536
    ∷ parents_from whole (opened (length o.arrows) before chain) (before + 1) os

abbrev pub parents_of : Table → List ObjectTree → List ℕ
parents_of whole os = parents_from whole [] 0 os

-- objects with their parents
abbrev pub with_parents : List ℕ → List ObjectOf → List ObjectOf
with_parents parents [] = []
with_parents [] (o ∷ os) = record o { parent = 0 } ∷ with_parents [] os
with_parents (p ∷ parents) (o ∷ os) = record o { parent = p } ∷ with_parents parents os

-- so many words, with zeros after those that are given
abbrev pub exactly : ℕ → List ℕ → List ℕ
exactly zero words = []
exactly (suc n) [] = 0 ∷ exactly n []
exactly (suc n) (w ∷ words) = w ∷ exactly n words

-- the defaults of the 63 properties: `name` has 0
unfoldable pub all_defaults : List ℕ → List ℕ
all_defaults words = 0 ∷ exactly most_properties words

-- The objects of a file, in order of definition

abbrev pub object_trees : List DirectiveTree → List ObjectTree
object_trees [] = []
object_trees (object o ∷ ds) = o ∷ object_trees ds
object_trees (_ ∷ ds) = object_trees ds

-- the objects of a file, still without their parents
abbrev pub objects_in : File → List DirectiveTree → List ObjectOf
objects_in file ds = map (object_in file) (object_trees ds)

abbrev pub objects_of : File → List DirectiveTree → List ObjectOf
objects_of file ds = with_parents (parents_of file.table (object_trees ds)) (objects_in file ds)
