-- How many bytes the objects of a file have, by what they list. It rests neither on the numbers of words nor on what
-- names stand for.
use Rattle.std.specs.Prelude.{◌+◌, ◌*◌, ◌==◌, ℕ, if◌then◌else◌, List, length, map}
use Rattle.zcore.specs.Layout.{object_entry_size}
use Rattle.syntax_directives.specs.Tree.{PropertyTree, ObjectTree, DirectiveTree}
use Rattle.syntax_directives.specs.Tree.{global, constant, array, attribute, property, object, routine}
use Rattle.meaning.specs.Places.{name_words, total}
use Rattle.checker_statements.specs.Objects.{short_name}

-- a size byte, and another one before a property of more than one word
abbrev pub listed_size : PropertyTree → ℕ
listed_size x = (if length x.values == 1 then 1 else 2) + 2 * length x.values

-- the number of the name's words, the name, the properties, and a byte after them
abbrev pub listed_table_size : ObjectTree → ℕ
listed_table_size o = 1 + 2 * name_words (short_name o.short) + total (map listed_size o.properties) + 1

-- the entry of an object, and its property table
abbrev pub listed_directive_size : DirectiveTree → ℕ
listed_directive_size (global n v) = 0
listed_directive_size (constant n v) = 0
listed_directive_size (array a) = 0
listed_directive_size (attribute n) = 0
listed_directive_size (property n v) = 0
listed_directive_size (object o) = object_entry_size + listed_table_size o
listed_directive_size (routine r) = 0

abbrev pub listed_objects_size : List DirectiveTree → ℕ
listed_objects_size ds = total (map listed_directive_size ds)
