-- The numbers of keys: where the dictionary stands does not rest on them.
use Rattle.std.proofs.Common.{◌≡◌, ◌==◌, ℕ, suc, nat_lt, ◌+◌, ◌*◌, Bool, true, false, cond, if◌then◌else◌, List, []}
use Rattle.std.proofs.Common.{◌∷◌, length, refl, sym, ap, ◌∙◌, length-append, arith}
use Rattle.std.specs.Prelude.{map}
use Rattle.std.specs.List.{concat}
use Rattle.syntax_directives.specs.Tree.{DirectiveTree, global, constant, array, attribute, property, object, routine}
use Rattle.syntax_directives.specs.Tree.{ValueTree, PropertyTree, ObjectTree}
use Rattle.meaning.specs.Places.{dictionary_place, name_words, property_size, table_size, objects_size, total}
use Rattle.checker_values.specs.Keys.{keys_of}
use Rattle.checker_values.specs.Names.{Table, File, table_of}
use Rattle.checker_statements.specs.Arrays.{array_bytes, arrays_of}
use Rattle.checker_statements.proofs.ArraySizes.{array_alike}
use Rattle.checker_statements.specs.Objects.{word_of, with_property, with_properties, provided_of}
use Rattle.checker_statements.specs.Objects.{short_name, object_in, objects_in}
use Rattle.checker.specs.Programs.{resolve_with, no_numbers, file_of, resolve_program}
use Rattle.checker.proofs.Numbered.{numbered, numbers_by, place_is}
use Rattle.checker.specs.Laws.{WordsAreNumbered}

-- The sizes of arrays

arrays_alike : (table : Table) (f g : ℕ → ℕ) (ds : List DirectiveTree)
    → length (concat (arrays_of (numbered table f) ds)) ≡ length (concat (arrays_of (numbered table g) ds))
arrays_alike table f g [] = refl
arrays_alike table f g (global n v ∷ ds) = arrays_alike table f g ds
arrays_alike table f g (constant n v ∷ ds) = arrays_alike table f g ds
arrays_alike table f g (array a ∷ ds) =
    let left = length-append (array_bytes (numbered table f) a) (concat (arrays_of (numbered table f) ds)) in
    let right = length-append (array_bytes (numbered table g) a) (concat (arrays_of (numbered table g) ds)) in
    let here = array_alike table f g a in
    let rest = arrays_alike table f g ds in
    omega (arith, left, right, here, rest)
arrays_alike table f g (attribute n ∷ ds) = arrays_alike table f g ds
arrays_alike table f g (property n v ∷ ds) = arrays_alike table f g ds
arrays_alike table f g (object o ∷ ds) = arrays_alike table f g ds
arrays_alike table f g (routine r ∷ ds) = arrays_alike table f g ds

-- The sizes of objects

-- the bytes of a property of so many words
abbrev words_size : ℕ → ℕ
words_size n = (if n == 1 then 1 else 2) + 2 * n

words_long : (file : File) (vs : List ValueTree) → length (map (word_of file) vs) ≡ length vs
words_long file [] = refl
words_long file (v ∷ vs) = ap suc (words_long file vs)

abbrev sizes_of : List (ℕ × List ℕ) → ℕ
sizes_of xs = total (map property_size xs)

one_put : (c : Bool) (a b r : ℕ) (x y : ℕ × List ℕ) (ys zs : List (ℕ × List ℕ)) → property_size x ≡ a
    → property_size y ≡ b → sizes_of ys ≡ r → sizes_of zs ≡ a + r
    → sizes_of (cond c (x ∷ y ∷ ys) (y ∷ zs)) ≡ a + (b + r)
one_put true a b r x y ys zs p q s t = omega (arith, p, q, s)
one_put false a b r x y ys zs p q s t = omega (arith, p, q, t)

one_size : (x : ℕ × List ℕ) (ys : List (ℕ × List ℕ)) → sizes_of (with_property x ys) ≡ property_size x + sizes_of ys
one_size x [] = refl
one_size x (y ∷ ys) =
    one_put (nat_lt y.0 x.0) (property_size x) (property_size y) (sizes_of ys) x y ys
    (with_property x ys) refl refl refl
    (one_size x ys)

abbrev values_size : List PropertyTree → ℕ
values_size [] = 0
values_size (x ∷ xs) = words_size (length x.values) + values_size xs

all_sizes : (file : File) (found : List (ℕ × List ℕ)) (xs : List PropertyTree)
    → sizes_of (with_properties file found xs) ≡ sizes_of found + values_size xs
all_sizes file found [] = omega arith
all_sizes file found (x ∷ xs) =
    let rest = all_sizes file (with_property (provided_of file x) found) xs in
    let first = one_size (provided_of file x) found in
    let same : property_size (provided_of file x) ≡ words_size (length x.values) =
    ap words_size (words_long file x.values) in
    joined (sizes_of (with_properties file (with_property (provided_of file x) found) xs))
    (sizes_of (with_property (provided_of file x) found)) (sizes_of found) (property_size (provided_of file x))
    (words_size (length x.values)) (values_size xs) rest first same
  where
    joined : (a b c d e r : ℕ) → a ≡ b + r → b ≡ d + c → d ≡ e → a ≡ c + (e + r)
    joined a b c d e r h k s = omega (arith, h, k, s)

-- the bytes of an object's table, whatever the numbers are
abbrev tree_size : ObjectTree → ℕ
tree_size o = 1 + 2 * name_words (short_name o.short) + values_size o.properties + 1

table_is : (file : File) (o : ObjectTree) → table_size (object_in file o) ≡ tree_size o
table_is file o = let h = all_sizes file [] o.properties in omega (arith, h)

tables_alike : (table : Table) (f g : ℕ → ℕ) (ds : List DirectiveTree)
    → objects_size (objects_in (numbered table f) ds) ≡ objects_size (objects_in (numbered table g) ds)
tables_alike table f g [] = refl
tables_alike table f g (global n v ∷ ds) = tables_alike table f g ds
tables_alike table f g (constant n v ∷ ds) = tables_alike table f g ds
tables_alike table f g (array a ∷ ds) = tables_alike table f g ds
tables_alike table f g (attribute n ∷ ds) = tables_alike table f g ds
tables_alike table f g (property n v ∷ ds) = tables_alike table f g ds
tables_alike table f g (object o ∷ ds) =
    added (length (objects_in (numbered table f) ds)) (length (objects_in (numbered table g) ds))
    (table_size (object_in (numbered table f) o)) (table_size (object_in (numbered table g) o))
    (total (map table_size (objects_in (numbered table f) ds)))
    (total (map table_size (objects_in (numbered table g) ds)))
    (table_is (numbered table f) o ∙ sym (table_is (numbered table g) o)) (tables_alike table f g ds)
  where
    added : (l m a b s t : ℕ) → a ≡ b → 14 * l + s ≡ 14 * m + t → 14 * suc l + (a + s) ≡ 14 * suc m + (b + t)
    added l m a b s t h k = omega (arith, h, k)
tables_alike table f g (routine r ∷ ds) = tables_alike table f g ds

pub words_numbered : WordsAreNumbered
unfolding resolve_program file_of resolve_with
words_numbered p =
    let table = table_of p.directives in
    let none = no_numbers p in
    let file = file_of p in
    let same : dictionary_place (resolve_with none p) ≡ dictionary_place (resolve_with file p) = place_is none p
    ∙ ap (λ (m : ℕ). 864 + m + objects_size (objects_in none p.directives))
    (arrays_alike table none.number file.number p.directives)
    ∙ ap (λ (m : ℕ). 864 + length (concat (arrays_of file p.directives)) + m)
    (tables_alike table none.number file.number p.directives) ∙ sym (place_is file p) in
    ap (λ (m : ℕ). resolve_with (numbered table (numbers_by m (keys_of p.words))) p) same
