-- Words of proofs: entries of arrays, and what adding one does.
use Rattle.std.specs.Prelude.{◌≡◌, ◌/◌, ◌-◌, ℕ, List, [], ◌∷◌, ◌++◌, length}
use Rattle.syntax_trees.specs.declared.tree.Width.{Width}
use Rattle.syntax_trees.specs.declared.tree.Width.TheVariants as widths
use Rattle.syntax_directives.specs.declared.tree.ArrayKind.{ArrayKind}
use Rattle.syntax_directives.specs.declared.tree.ArrayKind.TheVariants as kinds
use Rattle.syntax_directives.specs.declared.tree.ArrayValue.{ArrayValue}
use Rattle.syntax_directives.specs.Views.{value_tree}
use Rattle.meaning.specs.Limits.{most_array_bytes}
use Rattle.meaning.specs.declared.arrays.Arrays.{Arrays}
use Rattle.checker_values.specs.declared.breach.Breach.{Breach}
use Rattle.checker_values.specs.Names.{Table, File}
use Rattle.checker_statements.specs.Arrays.{entry_bytes, entry_value, entry_breaches}

-- the most entries that an array may have
abbrev pub most : ArrayKind → ℕ
most kinds.Bytes = most_array_bytes
most kinds.Words = most_array_bytes / 2
most kinds.String = 255
most kinds.Table = most_array_bytes / 2 - 1

-- the number of the entries, where the kind has it in front
abbrev pub number_bytes : ArrayKind → ℕ → List ℕ
number_bytes kinds.Bytes n = []
number_bytes kinds.Words n = []
number_bytes kinds.String n = entry_bytes widths.Byte n
number_bytes kinds.Table n = entry_bytes widths.Word n

abbrev pub own_entry_bytes : File → Width → ArrayValue → List ℕ
own_entry_bytes file width v = entry_bytes width (entry_value file (value_tree v))

abbrev pub own_entry_breaches : Table → Width → ArrayValue → List Breach
own_entry_breaches whole width v = entry_breaches whole width (value_tree v)

-- these bytes are added as one array
pub record IsArrayAdded (bytes : List ℕ) (old new : Arrays) : Type 0 where
  pub bytes_added : new.bytes.items ≡ old.bytes.items ++ bytes
  pub size_added : new.sizes.items ≡ old.sizes.items ++ length bytes ∷ []
