-- How many bytes the objects of a file have, by what they list.
use Rattle.std.proofs.Common.{◌≡◌, ◌+◌, ◌*◌, ℕ, suc, Bool, true, false, cond, List, [], ◌∷◌, length}
use Rattle.std.proofs.Common.{nat_lt, refl, ap, ◌∙◌, arith}
use Rattle.std.specs.Prelude.{◌==◌, map}
use Rattle.std.proofs.lemmas.List.{length-map}
use Rattle.syntax_directives.specs.declared.tree.Property.{Property}
use Rattle.syntax_directives.specs.declared.tree.Directive.{Directive}
use Rattle.syntax_directives.specs.Tree.{PropertyTree, ObjectTree, DirectiveTree, global, constant, array, attribute}
use Rattle.syntax_directives.specs.Tree.{property, object, routine}
use Rattle.syntax_directives.specs.Views.{property_tree, directive_tree}
use Rattle.meaning.specs.Places.{folded, name_words, objects_size, property_size, table_size, total}
use Rattle.meaning.proofs.Folding.{fold_small}
use Rattle.checker_values.specs.Names.{File}
use Rattle.checker_statements.specs.Objects.{object_in, objects_in, provided_of, short_name}
use Rattle.checker_statements.specs.Objects.{with_properties, with_property, word_of}
use Rattle.checker_statements.specs.Sizes.{listed_size, listed_table_size, listed_directive_size, listed_objects_size}

-- the sums of the loops

abbrev pub properties_total : List Property → ℕ
properties_total ps = total (map listed_size (map property_tree ps))

abbrev pub property_part : Property → ℕ
property_part x = listed_size (property_tree x)

pub properties_more : (x : Property) (xs : List Property)
    → property_part x + properties_total xs ≡ properties_total (x ∷ xs)
properties_more x xs = refl

abbrev pub directives_total : List Directive → ℕ
directives_total ds = listed_objects_size (map directive_tree ds)

abbrev pub directive_part : Directive → ℕ
directive_part d = listed_directive_size (directive_tree d)

pub directives_more : (d : Directive) (ds : List Directive)
    → directive_part d + directives_total ds ≡ directives_total (d ∷ ds)
directives_more d ds = refl

pub folds_none : folded 0 ≡ 0
folds_none = fold_small 0 (omega arith)

-- Each property is put in its place, and the sum stays what it is.

provided_size : (file : File) (x : PropertyTree) → property_size (provided_of file x) ≡ listed_size x
provided_size file x =
    ap (λ (n : ℕ). cond (n == 1) 1 2 + 2 * n) (length-map x.values (word_of file))

put_sizes : (c : Bool) (x y : ℕ × List ℕ) (ys zs : List (ℕ × List ℕ))
    → total (map property_size zs) ≡ property_size x + total (map property_size ys)
    → total (map property_size (cond c (x ∷ y ∷ ys) (y ∷ zs)))
    ≡ property_size x + total (map property_size (y ∷ ys))
put_sizes true x y ys zs h = refl
put_sizes false x y ys zs h =
    swapped (property_size x) (property_size y) (total (map property_size ys)) (total (map property_size zs)) h
  where
    swapped : (n m s r : ℕ) → r ≡ n + s → m + r ≡ n + (m + s)
    swapped n m s r h = omega (arith, h)

with_size : (x : ℕ × List ℕ) (ys : List (ℕ × List ℕ))
    → total (map property_size (with_property x ys)) ≡ property_size x + total (map property_size ys)
with_size x [] = refl
with_size x (y ∷ ys) = put_sizes (nat_lt y.0 x.0) x y ys (with_property x ys) (with_size x ys)

with_sizes : (file : File) (found : List (ℕ × List ℕ)) (xs : List PropertyTree)
    → total (map property_size (with_properties file found xs))
    ≡ total (map property_size found) + total (map listed_size xs)
with_sizes file found [] = let e : total (map property_size found) ≡ total (map property_size found) + 0 = omega arith in e
with_sizes file found (x ∷ xs) =
    with_sizes file (with_property (provided_of file x) found) xs
    ∙ summed (total (map property_size found)) (total (map property_size (with_property (provided_of file x) found)))
    (property_size (provided_of file x)) (listed_size x) (total (map listed_size xs))
    (with_size (provided_of file x) found) (provided_size file x)
  where
    summed : (f g p l r : ℕ) → g ≡ p + f → p ≡ l → g + r ≡ f + (l + r)
    summed f g p l r h k = omega (arith, h, k)

object_size : (file : File) (o : ObjectTree) → table_size (object_in file o) ≡ listed_table_size o
object_size file o =
    ap (λ (n : ℕ). 1 + 2 * name_words (short_name o.short) + n + 1)
    (from_none (total (map property_size (object_in file o).properties)) (total (map listed_size o.properties))
    (with_sizes file [] o.properties))
  where
    from_none : (n m : ℕ) → n ≡ 0 + m → n ≡ m
    from_none n m h = omega (arith, h)

none_more : (n m : ℕ) → n ≡ m → n ≡ 0 + m
none_more n m h = omega (arith, h)

-- the objects of a file, by what they list
pub objects_sized : (file : File) (ds : List DirectiveTree) → objects_size (objects_in file ds) ≡ listed_objects_size ds
objects_sized file [] = refl
objects_sized file (global n v ∷ ds) =
    none_more (objects_size (objects_in file ds)) (listed_objects_size ds) (objects_sized file ds)
objects_sized file (constant n v ∷ ds) =
    none_more (objects_size (objects_in file ds)) (listed_objects_size ds) (objects_sized file ds)
objects_sized file (array a ∷ ds) =
    none_more (objects_size (objects_in file ds)) (listed_objects_size ds) (objects_sized file ds)
objects_sized file (attribute n ∷ ds) =
    none_more (objects_size (objects_in file ds)) (listed_objects_size ds) (objects_sized file ds)
objects_sized file (property n v ∷ ds) =
    none_more (objects_size (objects_in file ds)) (listed_objects_size ds) (objects_sized file ds)
objects_sized file (routine r ∷ ds) =
    none_more (objects_size (objects_in file ds)) (listed_objects_size ds) (objects_sized file ds)
objects_sized file (object o ∷ ds) =
    counted (length (objects_in file ds)) (table_size (object_in file o)) (listed_table_size o)
    (total (map table_size (objects_in file ds))) (listed_objects_size ds) (object_size file o) (objects_sized file ds)
  where
    counted : (n t l all rest : ℕ) → t ≡ l → 14 * n + all ≡ rest → 14 * suc n + (t + all) ≡ 14 + l + rest
    counted n t l all rest h k = omega (arith, h, k)
