-- Definitions of arrays: the rules that they can break, and the bytes that they begin with. `->` and `string` have
-- entries of a byte, `-->` and `table` of a word, whose high byte comes first. A `string` or `table` begins with the
-- number of its entries, as one entry more.
use Rattle.std.specs.Prelude.{◌&&◌, ◌+◌, ◌*◌, ◌/◌, ◌%◌, ℕ, nat_le, nat_lt, Bool, true, if◌then◌else◌, List, [], ◌∷◌}
use Rattle.std.specs.Prelude.{◌++◌, map, length, replicate, Option, Some, None}
use Rattle.std.specs.List.{flat_map}
use Rattle.syntax_lexer.specs.FaultNumbers.{bad_array}
use Rattle.syntax_lexer.specs.declared.token.Position.{Position}
use Rattle.syntax_trees.specs.declared.tree.Width.{Width}
use Rattle.syntax_trees.specs.declared.tree.Width.TheVariants as widths
use Rattle.syntax_directives.specs.declared.tree.ArrayKind.{ArrayKind}
use Rattle.syntax_directives.specs.declared.tree.ArrayKind.TheVariants as kinds
use Rattle.syntax_directives.specs.Tree.{ValueTree, ArrayTree, DirectiveTree, array}
use Rattle.checker_values.specs.declared.breach.Breach.{Breach}
use Rattle.checker_values.specs.Breaches.{at}
use Rattle.checker_values.specs.declared.known.Known.{Known}
use Rattle.checker_values.specs.declared.known.Known.TheVariants as knowns
use Rattle.checker_values.specs.Keys.{or_zero}
use Rattle.checker_values.specs.Names.{Table, File, literal_known, literal_value}
use Rattle.checker_values.specs.Literals.{literal_breaches}
use Rattle.meaning.specs.Limits.{most_array_bytes}

abbrev pub width_of : ArrayKind → Width
width_of kinds.Bytes = widths.Byte
width_of kinds.Words = widths.Word
width_of kinds.String = widths.Byte
width_of kinds.Table = widths.Word

-- Sizes

-- how many bytes an array of n entries has
abbrev pub array_size : ArrayKind → ℕ → ℕ
array_size kinds.Bytes n = n
array_size kinds.Words n = 2 * n
array_size kinds.String n = 1 + n
array_size kinds.Table n = 2 + 2 * n

-- byte 0 of a `string` can tell the number of its entries
abbrev pub is_told : ArrayKind → ℕ → Bool
is_told kinds.String n = nat_le n 255
is_told _ n = true

-- An array may have n entries: at least one, at most 32,000 bytes in all, and a `string` at most 255. A negative size
-- is a word from 32,768 on.
abbrev pub is_size : ArrayKind → ℕ → Bool
is_size kind n = nat_le 1 n && nat_le (array_size kind n) most_array_bytes && is_told kind n

-- Rules

-- E28 at the array's name, where it may not have so many entries
abbrev pub count_breaches : Position → ArrayKind → ℕ → List Breach
count_breaches p kind n = if is_size kind n then [] else at p bad_array

-- The same of a size. No word is one, since the numbers of words rest on the sizes of arrays. A size that breaks a rule
-- itself is not tested.
abbrev pub size_breaches : Position → ArrayKind → Option Known → List Breach
size_breaches p kind None = []
size_breaches p kind (Some (knowns.Number n)) = count_breaches p kind n
size_breaches p kind (Some (knowns.Key key)) = at p bad_array

-- E28 at an entry of a byte that is above 255, as every word is
abbrev pub wide_breaches : Position → Width → Known → List Breach
wide_breaches p widths.Byte (knowns.Number n) = if nat_lt 255 n then at p bad_array else []
wide_breaches p widths.Byte (knowns.Key key) = at p bad_array
wide_breaches p widths.Word known = []

abbrev pub entry_breaches : Table → Width → ValueTree → List Breach
entry_breaches whole width v =
    literal_breaches whole v.value ++ wide_breaches v.position width (or_zero (literal_known whole v.value))

-- one value alone is the number of entries; several are the entries
abbrev pub values_breaches : Table → Position → ArrayKind → List ValueTree → List Breach
values_breaches whole p kind [] = count_breaches p kind 0
values_breaches whole p kind (v ∷ []) =
    literal_breaches whole v.value ++ size_breaches p kind (literal_known whole v.value)
values_breaches whole p kind (v ∷ w ∷ vs) =
    count_breaches p kind (length (v ∷ w ∷ vs))
    ++ flat_map (entry_breaches whole (width_of kind)) (v ∷ w ∷ vs)

abbrev pub array_breaches : Table → ArrayTree → List Breach
array_breaches whole a = values_breaches whole a.name.position a.kind a.values

-- What an array begins with

abbrev pub entry_value : File → ValueTree → ℕ
entry_value file v = literal_value file v.value

-- how many zeros a size makes; where a rule is broken, none
abbrev pub zeros : ArrayKind → Option Known → ℕ
zeros kind None = 0
zeros kind (Some (knowns.Number n)) = if is_size kind n then n else 0
zeros kind (Some (knowns.Key key)) = 0

abbrev pub entries_of : File → ArrayKind → List ValueTree → List ℕ
entries_of file kind [] = []
entries_of file kind (v ∷ []) = replicate (zeros kind (literal_known file.table v.value)) 0
entries_of file kind (v ∷ w ∷ vs) = map (entry_value file) (v ∷ w ∷ vs)

-- the entries, and their number in front where the kind has it
abbrev pub with_number : ArrayKind → List ℕ → List ℕ
with_number kinds.Bytes entries = entries
with_number kinds.Words entries = entries
with_number kinds.String entries = length entries ∷ entries
with_number kinds.Table entries = length entries ∷ entries

abbrev pub entry_bytes : Width → ℕ → List ℕ
entry_bytes widths.Byte n = (n % 256) ∷ []
entry_bytes widths.Word n = (n / 256 % 256) ∷ (n % 256) ∷ []

abbrev pub bytes_of : ArrayKind → List ℕ → List ℕ
bytes_of kind entries = flat_map (entry_bytes (width_of kind)) (with_number kind entries)

abbrev pub array_bytes : File → ArrayTree → List ℕ
array_bytes file a = bytes_of a.kind (entries_of file a.kind a.values)

-- the arrays of a file, in order of definition
abbrev pub arrays_of : File → List DirectiveTree → List (List ℕ)
arrays_of file [] = []
arrays_of file (array a ∷ ds) = array_bytes file a ∷ arrays_of file ds
arrays_of file (_ ∷ ds) = arrays_of file ds
