-- What arrays begin with, part by part.
use Rattle.std.proofs.Common.{◌≡◌, ◌≢◌, ℕ, suc, ◌+◌, ◌-◌, ◌<◌, ◌≤◌, List, [], ◌∷◌, ◌++◌, length, drop, slice_index_or}
use Rattle.std.proofs.Common.{Option, append_assoc, refl, sym, ap, ◌∙◌, arith}
use Rattle.std.specs.Prelude.{map, replicate}
use Rattle.std.specs.List.{flat_map}
use Rattle.std.proofs.lemmas.List.{length-replicate}
use Rattle.syntax_lexer.specs.declared.token.Position.{Position}
use Rattle.syntax_trees.specs.declared.tree.Width.{Width}
use Rattle.syntax_statements.specs.PartViews.{literal_tree}
use Rattle.syntax_directives.specs.declared.tree.ArrayKind.{ArrayKind}
use Rattle.syntax_directives.specs.declared.tree.ArrayValue.{ArrayValue}
use Rattle.syntax_directives.specs.Tree.{ValueTree}
use Rattle.syntax_directives.specs.Views.{value_tree}
use Rattle.meaning.specs.declared.arrays.Arrays.{Arrays}
use Rattle.checker_values.specs.declared.breach.Breach.{Breach}
use Rattle.checker_values.specs.declared.noting.Tally.{Tally}
use Rattle.checker_values.specs.declared.known.Known.{Known}
use Rattle.checker_values.specs.Names.{Table, File, literal_known}
use Rattle.checker_values.specs.Noted.{noted}
use Rattle.checker_values.proofs.Noted.{noted_none, noted_append, noted_two}
use Rattle.checker_values.proofs.Dropped.{drop_cons, drop_end}
use Rattle.checker_values.proofs.Mapped.{nothing_more}
use Rattle.checker_values.specs.Literals.{literal_breaches}
use Rattle.checker_statements.specs.Arrays.{width_of, count_breaches, size_breaches, entry_breaches, values_breaches}
use Rattle.checker_statements.specs.Arrays.{entry_value, zeros, entries_of, entry_bytes, bytes_of}
use Rattle.checker_statements.specs.Entries.{number_bytes, own_entry_bytes, own_entry_breaches, IsArrayAdded}
use Rattle.checker_statements.proofs.ArraySizes.{number_first, map_length}

-- Parts that are added

-- one more of the parts of a list is added
one_added : {A : Type 0} (f : A → List ℕ) (xs : List A) (i : ℕ) (d : A) (before after whole : List ℕ)
    → i < length xs → after ≡ before ++ f (slice_index_or xs i d)
    → before ++ flat_map f (drop i xs) ≡ whole → after ++ flat_map f (drop (i + 1) xs) ≡ whole
one_added {A = A} f xs i d before after whole lt more h =
    let j : i + 1 ≡ suc i = omega arith in
    rw j
    (ap (λ (z : List ℕ). z ++ flat_map f (drop (suc i) xs)) more
    ∙ append_assoc before (f (slice_index_or xs i d)) (flat_map f (drop (suc i) xs))
    ∙ ap (λ (z : List A). before ++ flat_map f z) (sym (drop_cons xs i d lt))
    ∙ h)

-- one more entry is added
pub entry_added : (file : File) (w : Width) (xs : List ArrayValue) (i : ℕ) (d : ArrayValue) (n : ℕ)
    (before after all : List ℕ) → i < length xs → n ≡ entry_value file (value_tree (slice_index_or xs i d))
    → after ≡ before ++ entry_bytes w n → before ++ flat_map (own_entry_bytes file w) (drop i xs) ≡ all
    → after ++ flat_map (own_entry_bytes file w) (drop (i + 1) xs) ≡ all
entry_added file w xs i d n before after all lt is more h =
    one_added (own_entry_bytes file w) xs i d before after all lt
    (more ∙ ap (λ (k : ℕ). before ++ entry_bytes w k) is) h

-- and its rules are noted
pub entry_noted : (whole : Table) (w : Width) (xs : List ArrayValue) (i : ℕ) (d : ArrayValue)
    (m o all : Tally) → i < length xs
    → o ≡ noted m (entry_breaches whole w (value_tree (slice_index_or xs i d)))
    → noted m (flat_map (own_entry_breaches whole w) (drop i xs)) ≡ all
    → noted o (flat_map (own_entry_breaches whole w) (drop (i + 1) xs)) ≡ all
entry_noted whole w xs i d m o all lt more h =
    let j : i + 1 ≡ suc i = omega arith in
    let rest : List Breach = flat_map (own_entry_breaches whole w) (drop (suc i) xs) in
    rw j
    (ap (λ (q : Tally). noted q rest) more
    ∙ sym (noted_append m (entry_breaches whole w (value_tree (slice_index_or xs i d))) rest)
    ∙ ap (λ (z : List ArrayValue). noted m (flat_map (own_entry_breaches whole w) z)) (sym (drop_cons xs i d lt))
    ∙ h)

pub all_noted : (whole : Table) (w : Width) (xs : List ArrayValue) (i : ℕ) (m all : Tally) → length xs ≤ i
    → noted m (flat_map (own_entry_breaches whole w) (drop i xs)) ≡ all → m ≡ all
all_noted whole w xs i m all end h =
    sym (noted_none m)
    ∙ ap (λ (z : List ArrayValue). noted m (flat_map (own_entry_breaches whole w) z)) (sym (drop_end xs i end))
    ∙ h

pub all_added : {A : Type 0} (f : A → List ℕ) (xs : List A) (i : ℕ) (bytes whole : List ℕ) → length xs ≤ i
    → bytes ++ flat_map f (drop i xs) ≡ whole → bytes ≡ whole
all_added {A = A} f xs i bytes whole end h =
    nothing_more bytes ∙ ap (λ (z : List A). bytes ++ flat_map f z) (sym (drop_end xs i end)) ∙ h

-- one more zero is added, where so many are left
pub zero_added : (w : Width) (n i : ℕ) (before after whole : List ℕ) → i < n → after ≡ before ++ entry_bytes w 0
    → before ++ flat_map (entry_bytes w) (replicate (n - i) 0) ≡ whole
    → after ++ flat_map (entry_bytes w) (replicate (n - (i + 1)) 0) ≡ whole
zero_added w n i before after whole lt more h =
    let left : n - i ≡ suc (n - (i + 1)) = omega (arith, lt) in
    ap (λ (z : List ℕ). z ++ flat_map (entry_bytes w) (replicate (n - (i + 1)) 0)) more
    ∙ append_assoc before (entry_bytes w 0) (flat_map (entry_bytes w) (replicate (n - (i + 1)) 0))
    ∙ ap (λ (k : ℕ). before ++ flat_map (entry_bytes w) (replicate k 0)) (sym left)
    ∙ h

pub zeros_added : (w : Width) (n i : ℕ) (bytes whole : List ℕ) → n ≤ i
    → bytes ++ flat_map (entry_bytes w) (replicate (n - i) 0) ≡ whole → bytes ≡ whole
zeros_added w n i bytes whole end h =
    let none : n - i ≡ 0 = omega (arith, end) in
    nothing_more bytes ∙ ap (λ (k : ℕ). bytes ++ flat_map (entry_bytes w) (replicate k 0)) (sym none) ∙ h

-- One value

alone : {A : Type 0} (xs : List A) (d : A) → length xs ≡ 1 → xs ≡ slice_index_or xs 0 d ∷ []
alone [] d n = absurd (omega (arith, n))
alone (x ∷ []) d n = refl
alone (x ∷ y ∷ xs) d n = absurd (omega (arith, n))

pub sized_breaks : (whole : Table) (position : Position) (kind : ArrayKind) (values : List ArrayValue)
    (d : ArrayValue) (size : Option Known) (m o q : Tally) → length values ≡ 1
    → size ≡ literal_known whole (literal_tree (slice_index_or values 0 d).value)
    → o ≡ noted m (literal_breaches whole (literal_tree (slice_index_or values 0 d).value))
    → q ≡ noted o (size_breaches position kind size)
    → q ≡ noted m (values_breaches whole position kind (map value_tree values))
sized_breaks whole position kind values d size m o q one number a b =
    let tree = literal_tree (slice_index_or values 0 d).value in
    noted_two m o q (literal_breaches whole tree) (size_breaches position kind (literal_known whole tree)) a
    (b ∙ ap (λ (s : Option Known). noted o (size_breaches position kind s)) number)
    ∙ ap (λ (vs : List ArrayValue). noted m (values_breaches whole position kind (map value_tree vs)))
    (sym (alone values d one))

pub sized_adds : (file : File) (kind : ArrayKind) (values : List ArrayValue) (d : ArrayValue) (size : Option Known)
    (n : ℕ) (old mid new : List ℕ) → length values ≡ 1
    → size ≡ literal_known file.table (literal_tree (slice_index_or values 0 d).value) → n ≡ zeros kind size
    → mid ≡ old ++ number_bytes kind n → new ≡ mid ++ flat_map (entry_bytes (width_of kind)) (replicate n 0)
    → new ≡ old ++ bytes_of kind (entries_of file kind (map value_tree values))
sized_adds file kind values d size n old mid new one number count a b =
    let e : n ≡ zeros kind (literal_known file.table (literal_tree (slice_index_or values 0 d).value)) = count
    ∙ ap (zeros kind) number in
    b ∙ ap (λ (z : List ℕ). z ++ flat_map (entry_bytes (width_of kind)) (replicate n 0)) a
    ∙ append_assoc old (number_bytes kind n) (flat_map (entry_bytes (width_of kind)) (replicate n 0))
    ∙ ap (λ (k : ℕ). old ++ (number_bytes kind k ++ flat_map (entry_bytes (width_of kind)) (replicate n 0)))
    (sym (length-replicate n 0))
    ∙ ap (λ (z : List ℕ). old ++ z) (sym (number_first kind (replicate n 0)))
    ∙ ap (λ (k : ℕ). old ++ bytes_of kind (replicate k 0)) e
    ∙ ap (λ (vs : List ArrayValue). old ++ bytes_of kind (entries_of file kind (map value_tree vs)))
    (sym (alone values d one))

-- Several values

flat_map_map : {A B C : Type 0} (f : B → List C) (g : A → B) (xs : List A)
    → flat_map f (map g xs) ≡ flat_map (λ (x : A). f (g x)) xs
flat_map_map f g [] = refl
flat_map_map {C = C} f g (x ∷ xs) = ap (λ (r : List C). f (g x) ++ r) (flat_map_map f g xs)

several_entries : (file : File) (kind : ArrayKind) (vs : List ValueTree) → length vs ≢ 1
    → entries_of file kind vs ≡ map (entry_value file) vs
several_entries file kind [] n = refl
several_entries file kind (v ∷ []) n = absurd (n refl)
several_entries file kind (v ∷ w ∷ vs) n = refl

several_break : (whole : Table) (p : Position) (kind : ArrayKind) (vs : List ValueTree) → length vs ≢ 1
    → values_breaches whole p kind vs
    ≡ count_breaches p kind (length vs) ++ flat_map (entry_breaches whole (width_of kind)) vs
several_break whole p kind [] n = nothing_more (count_breaches p kind 0)
several_break whole p kind (v ∷ []) n = absurd (n refl)
several_break whole p kind (v ∷ w ∷ vs) n = refl

still_several : (values : List ArrayValue) → length values ≢ 1 → length (map value_tree values) ≢ 1
still_several values n = λ e. n (sym (map_length value_tree values) ∙ e)

pub listed_breaks : (whole : Table) (position : Position) (kind : ArrayKind) (values : List ArrayValue) (n : ℕ)
    (w : Width) (m o q : Tally) → length values ≢ 1 → n ≡ length values → w ≡ width_of kind
    → o ≡ noted m (count_breaches position kind n) → q ≡ noted o (flat_map (own_entry_breaches whole w) values)
    → q ≡ noted m (values_breaches whole position kind (map value_tree values))
listed_breaks whole position kind values n w m o q more count width a b =
    let trees = map value_tree values in
    let k : n ≡ length trees = count ∙ sym (map_length value_tree values) in
    noted_two m o q (count_breaches position kind (length trees))
    (flat_map (entry_breaches whole (width_of kind)) trees)
    (a ∙ ap (λ (j : ℕ). noted m (count_breaches position kind j)) k)
    (b ∙ ap (λ (v : Width). noted o (flat_map (own_entry_breaches whole v) values)) width
    ∙ ap (λ (bs : List Breach). noted o bs)
    (sym (flat_map_map (entry_breaches whole (width_of kind)) value_tree values)))
    ∙ ap (λ (bs : List Breach). noted m bs)
    (sym (several_break whole position kind trees (still_several values more)))

pub listed_adds : (file : File) (kind : ArrayKind) (values : List ArrayValue) (n : ℕ) (w : Width)
    (old mid new : List ℕ) → length values ≢ 1 → n ≡ length values → w ≡ width_of kind
    → mid ≡ old ++ number_bytes kind n → new ≡ mid ++ flat_map (own_entry_bytes file w) values
    → new ≡ old ++ bytes_of kind (entries_of file kind (map value_tree values))
listed_adds file kind values n w old mid new more count width a b =
    let trees = map value_tree values in
    let es : List ℕ = map (entry_value file) trees in
    let k : n ≡ length es = count ∙ sym (map_length value_tree values) ∙ sym (map_length (entry_value file) trees) in
    let flat : flat_map (own_entry_bytes file w) values ≡ flat_map (entry_bytes (width_of kind)) es =
    ap (λ (v : Width). flat_map (own_entry_bytes file v) values) width
    ∙ sym (flat_map_map (λ (t : ValueTree). entry_bytes (width_of kind) (entry_value file t)) value_tree values)
    ∙ sym (flat_map_map (entry_bytes (width_of kind)) (entry_value file) trees) in
    b ∙ ap (λ (z : List ℕ). z ++ flat_map (own_entry_bytes file w) values) a
    ∙ append_assoc old (number_bytes kind n) (flat_map (own_entry_bytes file w) values)
    ∙ ap (λ (z : List ℕ). old ++ (number_bytes kind n ++ z)) flat
    ∙ ap (λ (j : ℕ). old ++ (number_bytes kind j ++ flat_map (entry_bytes (width_of kind)) es)) k
    ∙ ap (λ (z : List ℕ). old ++ z) (sym (number_first kind es))
    ∙ ap (λ (z : List ℕ). old ++ bytes_of kind z) (sym (several_entries file kind trees (still_several values more)))

-- a whole array
pub array_added : (old new : Arrays) (bytes mid : List ℕ) (n : ℕ) → mid ≡ old.bytes.items ++ bytes
    → new.bytes.items ≡ mid → n ≡ length bytes → new.sizes.items ≡ old.sizes.items ++ n ∷ []
    → IsArrayAdded bytes old new
array_added old new bytes mid n a b count more = record {
  bytes_added = b ∙ a;
  size_added = more ∙ ap (λ (k : ℕ). old.sizes.items ++ k ∷ []) count;
}
