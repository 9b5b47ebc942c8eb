-- Words of proofs: the names and the numbers of keys that a file has, and what a routine sees of them, by two tables.
use Rattle.std.specs.Prelude.{◌%◌, ℕ, List, Option, Some, None}
use Rattle.checker_values.specs.declared.binding.Binding.{Binding}
use Rattle.checker_values.specs.declared.binding.Binding.TheVariants as bindings
use Rattle.checker_values.specs.declared.numbers.Numbers.{Numbers}
use Rattle.checker_values.specs.declared.file.File as code_file
use Rattle.checker_values.specs.declared.table.Scope.{Scope}
use Rattle.tables.specs.KeyNumbers.{key_number}
use Rattle.checker_values.specs.Names.{key_of, in_table, File, Seen}

abbrev pub either : Option Binding → Option Binding → Option Binding
either (Some binding) other = Some binding
either None other = other

-- the number of a key
abbrev pub number_at : Numbers → ℕ → ℕ
number_at numbers key = key_number numbers.dictionary numbers.keys.items key % 65536

abbrev pub file_in : code_file.File → File
file_in file = record { table = file.table.entries; number = number_at file.numbers }

-- the locals come before the names of the file
unfoldable pub look_in : Scope → List ℕ → Option Binding
look_in scope name = either (in_table scope.locals.now.entries (key_of name))
    (in_table scope.file.now.table.entries (key_of name))

abbrev pub local_binding : Option ℕ → Option Binding
local_binding (Some number) = Some (bindings.Local number)
local_binding None = None

abbrev pub seen_in : Scope → Seen
seen_in scope = record { look = look_in scope; number = number_at scope.file.now.numbers }
