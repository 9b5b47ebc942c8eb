-- How many bytes arrays have, and that these are few.
use Rattle.std.proofs.Common.{◌≡◌, ℕ, suc, ◌*◌, ◌≤◌, Bool, true, false, cond, nat_le, List, [], ◌∷◌, ◌++◌, length}
use Rattle.std.proofs.Common.{Option, Some, None, refl, sym, ap, ◌∙◌, arith}
use Rattle.std.specs.Prelude.{map, replicate, ◌&&◌}
use Rattle.std.specs.List.{flat_map}
use Rattle.std.proofs.lemmas.Bool.{leb-true, and_parts}
use Rattle.std.proofs.lemmas.Bool.Decides.{nat_tests}
use Rattle.std.proofs.lemmas.List.{length-replicate}
use Rattle.syntax_lexer.specs.declared.token.Position.{Position}
use Rattle.syntax_trees.specs.declared.tree.Width.{Width}
use Rattle.syntax_trees.specs.declared.tree.Width.TheVariants as widths
use Rattle.syntax_directives.specs.declared.tree.ArrayKind.{ArrayKind}
use Rattle.syntax_directives.specs.declared.tree.ArrayKind.TheVariants as kinds
use Rattle.syntax_directives.specs.Tree.{ValueTree, ArrayTree}
use Rattle.meaning.specs.Limits.{most_array_bytes}
use Rattle.checker_values.specs.Breaches.{at}
use Rattle.checker_values.specs.declared.known.Known.{Known}
use Rattle.checker_values.specs.declared.known.Known.TheVariants as knowns
use Rattle.checker_values.specs.Names.{Table, File, literal_known}
use Rattle.checker_values.proofs.Kept.{left_empty}
use Rattle.checker_statements.specs.Arrays.{width_of, array_size, is_told, is_size, count_breaches, entry_breaches}
use Rattle.checker_statements.specs.Arrays.{values_breaches, entry_value, zeros, entries_of, entry_bytes, bytes_of}
use Rattle.checker_statements.specs.Arrays.{array_breaches, array_bytes}
use Rattle.checker_statements.specs.Entries.{most, number_bytes}

-- Sizes

pub size_is : (kind : ArrayKind) (n : ℕ) → is_size kind n ≡ (nat_le 1 n && nat_le n (most kind))
size_is kinds.Bytes n = grind (arith, nat_tests)
size_is kinds.Words n = grind (arith, nat_tests)
size_is kinds.String n = grind (arith, nat_tests)
size_is kinds.Table n = grind (arith, nat_tests)

size_within : (kind : ArrayKind) (n : ℕ) → is_size kind n ≡ true → array_size kind n ≤ most_array_bytes
size_within kind n h =
    let both = and_parts (nat_le 1 n && nat_le (array_size kind n) most_array_bytes) (is_told kind n) h in
    let first = and_parts (nat_le 1 n) (nat_le (array_size kind n) most_array_bytes) both.0 in
    leb-true (array_size kind n) most_array_bytes first.1

-- Bytes

-- the number comes first, where the kind has it
pub number_first : (kind : ArrayKind) (es : List ℕ)
    → bytes_of kind es ≡ number_bytes kind (length es) ++ flat_map (entry_bytes (width_of kind)) es
number_first kinds.Bytes es = refl
number_first kinds.Words es = refl
number_first kinds.String es = refl
number_first kinds.Table es = refl

abbrev width_size : Width → ℕ
width_size widths.Byte = 1
width_size widths.Word = 2

entry_lengths : (w : Width) (es : List ℕ) → length (flat_map (entry_bytes w) es) ≡ width_size w * length es
entry_lengths widths.Byte [] = refl
entry_lengths widths.Word [] = refl
entry_lengths widths.Byte (e ∷ es) = let h = entry_lengths widths.Byte es in omega (arith, h)
entry_lengths widths.Word (e ∷ es) = let h = entry_lengths widths.Word es in omega (arith, h)

bytes_length : (kind : ArrayKind) (es : List ℕ) → length (bytes_of kind es) ≡ array_size kind (length es)
bytes_length kinds.Bytes es = let h = entry_lengths widths.Byte es in omega (arith, h)
bytes_length kinds.Words es = let h = entry_lengths widths.Word es in omega (arith, h)
bytes_length kinds.String es = let h = entry_lengths widths.Byte es in omega (arith, h)
bytes_length kinds.Table es = let h = entry_lengths widths.Word es in omega (arith, h)

none_short : (kind : ArrayKind) → array_size kind 0 ≤ most_array_bytes
none_short kinds.Bytes = omega arith
none_short kinds.Words = omega arith
none_short kinds.String = omega arith
none_short kinds.Table = omega arith

number_short : (kind : ArrayKind) (n : ℕ) (c : Bool) → is_size kind n ≡ c → array_size kind (cond c n 0) ≤ most_array_bytes
number_short kind n true h = size_within kind n h
number_short kind n false h = none_short kind

zeros_short : (kind : ArrayKind) (size : Option Known) → array_size kind (zeros kind size) ≤ most_array_bytes
zeros_short kind None = none_short kind
zeros_short kind (Some (knowns.Number n)) = number_short kind n (is_size kind n) refl
zeros_short kind (Some (knowns.Key key)) = none_short kind

pub map_length : {A B : Type 0} (f : A → B) (xs : List A) → length (map f xs) ≡ length xs
map_length f [] = refl
map_length f (x ∷ xs) = ap suc (map_length f xs)

short_of : (kind : ArrayKind) (es : List ℕ) (n : ℕ) → length es ≡ n → array_size kind n ≤ most_array_bytes
    → length (bytes_of kind es) ≤ most_array_bytes
short_of kind es n is h =
    let long = bytes_length kind es in
    let same = ap (array_size kind) is in
    omega (arith, long, same, h)

is_kept : (c : Bool) (p : Position) → cond c [] (at p 28) ≡ [] → c ≡ true
is_kept true p h = refl
is_kept false p h = absurd cc

values_short : (file : File) (p : Position) (kind : ArrayKind) (vs : List ValueTree)
    → values_breaches file.table p kind vs ≡ [] → length (bytes_of kind (entries_of file kind vs)) ≤ most_array_bytes
values_short file p kind [] h = short_of kind [] 0 refl (none_short kind)
values_short file p kind (v ∷ []) h =
    let n = zeros kind (literal_known file.table v.value) in
    short_of kind (replicate n 0) n (length-replicate n 0) (zeros_short kind (literal_known file.table v.value))
values_short file p kind (v ∷ w ∷ vs) h =
    let n = length (v ∷ w ∷ vs) in
    let fits = is_kept (is_size kind n) p
    (left_empty (count_breaches p kind n) (flat_map (entry_breaches file.table (width_of kind)) (v ∷ w ∷ vs)) h) in
    short_of kind (map (entry_value file) (v ∷ w ∷ vs)) n (map_length (entry_value file) (v ∷ w ∷ vs))
    (size_within kind n fits)

pub array_short : (file : File) (a : ArrayTree) → array_breaches file.table a ≡ []
    → length (array_bytes file a) ≤ most_array_bytes
array_short file a h = values_short file a.name.position a.kind a.values h

-- How many bytes an array has does not rest on the numbers of keys

abbrev with_numbers : Table → (ℕ → ℕ) → File
with_numbers table number = record { table = table; number = number }

entries_alike : (table : Table) (f g : ℕ → ℕ) (kind : ArrayKind) (vs : List ValueTree)
    → length (entries_of (with_numbers table f) kind vs) ≡ length (entries_of (with_numbers table g) kind vs)
entries_alike table f g kind [] = refl
entries_alike table f g kind (v ∷ []) = refl
entries_alike table f g kind (v ∷ w ∷ vs) =
    map_length (entry_value (with_numbers table f)) (v ∷ w ∷ vs)
    ∙ sym (map_length (entry_value (with_numbers table g)) (v ∷ w ∷ vs))

pub array_alike : (table : Table) (f g : ℕ → ℕ) (a : ArrayTree)
    → length (array_bytes (record { table = table; number = f }) a)
    ≡ length (array_bytes (record { table = table; number = g }) a)
array_alike table f g a =
    let left : List ℕ = entries_of (with_numbers table f) a.kind a.values in
    let right : List ℕ = entries_of (with_numbers table g) a.kind a.values in
    bytes_length a.kind left ∙ ap (array_size a.kind) (entries_alike table f g a.kind a.values)
    ∙ sym (bytes_length a.kind right)
