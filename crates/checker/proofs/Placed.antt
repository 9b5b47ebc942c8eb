-- Objects of a program that breaks no rule are within their limits.
use Rattle.std.proofs.Common.{◌≡◌, ◌<◌, ◌≤◌, ◌+◌, ◌-◌, ◌%◌, ℕ, zero, suc, nat_le, nat_lt, Bool, true, false, cond, List}
use Rattle.std.proofs.Common.{[], ◌∷◌, ◌++◌, length, slice_index_or, Option, Some, None, refl, sym, ap, subst}
use Rattle.std.proofs.Common.{arith}
use Rattle.std.specs.Prelude.{map, slice_get}
use Rattle.std.specs.List.{flat_map, All}
use Rattle.std.proofs.lemmas.Bool.{leb-true}
use Rattle.std.proofs.lemmas.List.Elements.{All-nil, All-cons, All-head, All-tail}
use Rattle.syntax_lexer.specs.declared.token.Position.{Position}
use Rattle.syntax_trees.specs.Tree.{NameTree}
use Rattle.syntax_directives.specs.Tree.{ValueTree, TextTree, PropertyTree, ObjectTree, DirectiveTree, global, constant}
use Rattle.syntax_directives.specs.Tree.{array, attribute, property, object, routine}
use Rattle.meaning.specs.Resolved.{ProgramOf}
use Rattle.meaning.specs.Objects.{ObjectOf, no_object, object_at}
use Rattle.meaning.specs.Places.{name_words}
use Rattle.meaning.specs.Accepted.{IsProperty, IsObject}
use Rattle.checker_values.specs.declared.binding.Binding.{Binding}
use Rattle.checker_values.specs.declared.binding.Binding.TheVariants as bindings
use Rattle.checker_values.specs.Breaches.{at}
use Rattle.checker_values.specs.Names.{Table, File, key_of, in_table, repeated_breaches}
use Rattle.checker_values.proofs.Kept.{left_empty, right_empty}
use Rattle.checker_values.specs.Literals.{initial_value}
use Rattle.checker_values.specs.Expressions.{property_breaches}
use Rattle.checker_statements.specs.Objects.{excess_breaches, count_breaches, value_breaches, provided_breaches}
use Rattle.checker_statements.specs.Objects.{property_name, given_breaches, short_breaches, object_breaches, Open, open_to}
use Rattle.checker_statements.specs.Objects.{above_of, opened, arrow_breaches, parent_breaches, named_parent_breaches}
use Rattle.checker_statements.specs.Objects.{stand_breaches, standing_from, word_of, with_property}
use Rattle.checker_statements.specs.Objects.{provided_of, with_properties, given_of, short_name, object_in, above_number}
use Rattle.checker_statements.specs.Objects.{object_of_binding, parent_number, parents_from, with_parents, exactly, all_defaults}
use Rattle.checker.specs.Programs.{defaults_in}
use Rattle.checker.proofs.MeantNames.{attribute_within, property_within}
use Rattle.checker.proofs.Bindings.{AreEntries, found_meant}

is_kept : (c : Bool) (p : Position) (n : ℕ) → cond c [] (at p n) ≡ [] → c ≡ true
is_kept true p n h = refl
is_kept false p n h = absurd cc

-- Objects without their parents

abbrev IsProvided : ℕ × List ℕ → Type 0
IsProvided x = IsProperty x.0 × ((1 ≤ length x.1) × (length x.1 ≤ 32) × All (λ w. w < 65536) x.1)

pub record IsAlone (o : ObjectOf) : Type 0 where
  pub name : name_words o.name ≤ 255
  pub attributes : All (λ a. a < 48) o.attributes
  pub properties : All IsProvided o.properties

short_within : (s : Option TextTree) → short_breaches s ≡ [] → name_words (short_name s) ≤ 255
short_within None h = omega arith
short_within (Some s) h = leb-true (name_words s.bytes) 255 (is_kept (nat_le (name_words s.bytes) 255) s.position 24 h)

words_long : (file : File) (vs : List ValueTree) → length (map (word_of file) vs) ≡ length vs
words_long file [] = refl
words_long file (v ∷ vs) = ap suc (words_long file vs)

words_small : (file : File) (vs : List ValueTree) → All (λ w. w < 65536) (map (word_of file) vs)
words_small file [] = All-nil (λ w. w < 65536)
words_small file (v ∷ vs) = All-cons (λ w. w < 65536) (word_of file v) (map (word_of file) vs) (omega arith)
    (words_small file vs)

none_after : {A : Type 0} (xs : List A) (n : ℕ) → slice_get xs n ≡ None → length xs ≤ n
none_after [] n h = omega arith
none_after (x ∷ xs) zero h = absurd cc
none_after (x ∷ xs) (suc n) h = let rest = none_after xs n h in omega (arith, rest)

no_excess : (o : Option ValueTree) → excess_breaches o ≡ [] → o ≡ None
no_excess None h = refl
no_excess (Some v) h = absurd cc

counted : (p : Position) (vs : List ValueTree) → count_breaches p vs ≡ [] → (1 ≤ length vs) × (length vs ≤ 32)
counted p [] h = absurd cc
counted p (v ∷ vs) h = (omega arith, none_after (v ∷ vs) 32 (no_excess (slice_get (v ∷ vs) 32) h))

put : (P : ℕ × List ℕ → Type 0) (x : ℕ × List ℕ) (ys : List (ℕ × List ℕ)) → P x → All P ys → All P (with_property x ys)
put P x [] h all = All-cons P x [] h all
put P x (y ∷ ys) h all = go (nat_lt y.0 x.0) (put P x ys h (All-tail P y ys all))
  where
    go : (c : Bool) → All P (with_property x ys) → All P (cond c (x ∷ y ∷ ys) (y ∷ with_property x ys))
    go true rest = All-cons P x (y ∷ ys) h all
    go false rest = All-cons P y (with_property x ys) (All-head P y ys all) rest

module _ (p : ProgramOf) (attributes properties : ℕ) (few : attributes ≤ 48) (short : properties ≤ 62) (file : File)
    (entries : AreEntries (length p.globals) (length p.arrays) attributes properties p.routines file.table) where
  given_within : (ns : List NameTree) → flat_map (given_breaches file.table) ns ≡ []
      → All (λ a. a < 48) (map (given_of file) ns)
  given_within [] h = All-nil (λ a. a < 48)
  given_within (n ∷ ns) h =
      let key = key_of n.text in
      let own = given_breaches file.table n in
      let rest = flat_map (given_breaches file.table) ns in
      let one = attribute_within p 0 n.position (in_table file.table key)
      (found_meant p attributes properties few short 0 file.table key entries) (left_empty own rest h) in
      All-cons (λ a. a < 48) (given_of file n) (map (given_of file) ns) (omega (arith, one))
      (given_within ns (right_empty own rest h))

  provided_within : (x : PropertyTree) → provided_breaches file.table x ≡ [] → IsProvided (provided_of file x)
  provided_within x h =
      let key = key_of x.name.text in
      let kind = property_breaches x.name.position (in_table file.table key) in
      let count = count_breaches x.name.position x.values in
      let each = flat_map (value_breaches file.table) x.values in
      let number = property_within p 0 x.name.position (in_table file.table key)
      (found_meant p attributes properties few short 0 file.table key entries) (left_empty kind (count ++ each) h) in
      let low = number.0 in
      let high = number.1 in
      let long = counted x.name.position x.values (left_empty count each (right_empty kind (count ++ each) h)) in
      let tally = long.0 in
      let most = long.1 in
      let same = words_long file x.values in (
        (omega (arith, low, high), omega (arith, low, high)),
        (omega (arith, tally, same), omega (arith, most, same), words_small file x.values),
      )

  properties_within : (found : List (ℕ × List ℕ)) (xs : List PropertyTree)
      → flat_map (provided_breaches file.table) xs ≡ [] → All IsProvided found
      → All IsProvided (with_properties file found xs)
  properties_within found [] h all = all
  properties_within found (x ∷ xs) h all =
      let own = provided_breaches file.table x in
      let rest = flat_map (provided_breaches file.table) xs in
      properties_within (with_property (provided_of file x) found) xs (right_empty own rest h)
      (put IsProvided (provided_of file x) found (provided_within x (left_empty own rest h)) all)

  pub object_within : (o : ObjectTree) → object_breaches file.table o ≡ [] → IsAlone (object_in file o)
  object_within o h =
      let text = short_breaches o.short in
      let twice = repeated_breaches [] (map property_name o.properties) in
      let provided = flat_map (provided_breaches file.table) o.properties in
      let given = flat_map (given_breaches file.table) o.attributes in
      let rest = right_empty twice (provided ++ given) (right_empty text (twice ++ (provided ++ given)) h) in
      record {
        name = short_within o.short (left_empty text (twice ++ (provided ++ given)) h);
        attributes = given_within o.attributes (right_empty provided given rest);
        properties = properties_within [] o.properties (left_empty provided given rest) (All-nil IsProvided);
      }

-- Parents stand earlier

-- the parent of each object is none or an earlier one, where so many stand before the first
abbrev pub Rise : ℕ → List ℕ → Type 0
Rise before [] = Unit {0}
Rise before (p ∷ ps) = (p ≤ before) × Rise (before + 1) ps

abbrev AreBefore : ℕ → Open → Type 0
AreBefore before [] = Unit {0}
AreBefore before (x ∷ xs) = (x.1 ≤ before) × AreBefore before xs

open_before : (n before : ℕ) (xs : Open) → AreBefore before xs → AreBefore before (open_to n xs)
open_before n before [] h = tt
open_before n before (x ∷ xs) h = go (nat_lt x.0 n) (open_before n before xs h.1)
  where
    go : (c : Bool) → AreBefore before (open_to n xs) → AreBefore before (cond c (x ∷ open_to n xs) [])
    go true rest = (h.0, rest)
    go false rest = tt

one_opened : (n before : ℕ) (xs : Open) → AreBefore before xs → AreBefore (before + 1) (xs ++ (n, before + 1) ∷ [])
one_opened n before [] h = (omega arith, tt)
one_opened n before (x ∷ xs) h = let first = h.0 in (omega (arith, first), one_opened n before xs h.1)

one_above : (before : ℕ) (xs : Open) (i : ℕ) → AreBefore before xs → above_number (slice_get xs i) ≤ before
one_above before [] i h = omega arith
one_above before (x ∷ xs) zero h = h.0
one_above before (x ∷ xs) (suc i) h = one_above before xs i h.1

parent_before : (p : Position) (before : ℕ) (o : Option Binding) → parent_breaches p before o ≡ []
    → object_of_binding o ≤ before
parent_before p before None h = absurd cc
parent_before p before (Some (bindings.Constant n)) h = absurd cc
parent_before p before (Some (bindings.Global g)) h = absurd cc
parent_before p before (Some (bindings.Array a kind)) h = absurd cc
parent_before p before (Some (bindings.Routine r n)) h = absurd cc
parent_before p before (Some (bindings.Attribute a)) h = absurd cc
parent_before p before (Some (bindings.Property n)) h = absurd cc
parent_before p before (Some (bindings.Object o)) h = leb-true o before (is_kept (nat_le o before) p 20 h)
parent_before p before (Some (bindings.Local l)) h = absurd cc

number_before : (whole : Table) (above : Option (ℕ × ℕ)) (before : ℕ) (parent : Option NameTree)
    → above_number above ≤ before → named_parent_breaches whole before parent ≡ []
    → parent_number whole above parent ≤ before
number_before whole above before None h k = h
number_before whole above before (Some n) h k =
    parent_before n.position before (in_table whole (key_of n.text)) k

pub parents_rise : (whole : Table) (chain : Open) (before : ℕ) (os : List ObjectTree) → AreBefore before chain
    → standing_from whole chain before os ≡ [] → Rise before (parents_from whole chain before os)
parents_rise whole chain before [] b h = tt
parents_rise whole chain before (o ∷ os) b h =
    let n : ℕ = length o.arrows in
    let own = stand_breaches whole chain before o in
    let rest = standing_from whole (opened n before chain) (before + 1) os in
    let above = above_of n chain in
    let named = named_parent_breaches whole before o.parent in
    let inside : AreBefore before (open_to n chain) = open_before n before chain b in
    let one : parent_number whole above o.parent ≤ before =
    number_before whole above before o.parent (one_above before (open_to n chain) (length (open_to n chain) - 1) inside)
    (right_empty (arrow_breaches above o.arrows) named (left_empty own rest h)) in (
      omega (arith, one),
      parents_rise whole (opened n before chain) (before + 1) os
          (one_opened n before (open_to n chain) inside) (right_empty own rest h),
    )

-- Objects with their parents

alone_object : (o : ObjectOf) (p before : ℕ) → IsAlone o → p ≤ before → IsObject (record o { parent = p }) before
alone_object o p before h le = record {
  parent = le;
  name = h.name;
  attributes = h.attributes;
  numbers = λ k d lt. (h.properties k d lt).0;
  words = λ k d lt. (h.properties k d lt).1;
}

object_there : (before : ℕ) (ps : List ℕ) (os : List ObjectOf) → Rise before ps → All IsAlone os → (k : ℕ)
    → k < length (with_parents ps os) → IsObject (slice_index_or (with_parents ps os) k no_object) (before + k)
object_there before ps [] rise all k lt = absurd (omega (arith, lt))
object_there before [] (o ∷ os) rise all zero lt =
    alone_object o 0 (before + zero) (All-head IsAlone o os all) (omega arith)
object_there before [] (o ∷ os) rise all (suc k) lt =
    subst (λ (n : ℕ). IsObject (slice_index_or (with_parents [] os) k no_object) n) (omega arith)
    (object_there (before + 1) [] os tt (All-tail IsAlone o os all) k (omega (arith, lt)))
object_there before (p ∷ ps) (o ∷ os) rise all zero lt =
    let first = rise.0 in
    alone_object o p (before + zero) (All-head IsAlone o os all) (omega (arith, first))
object_there before (p ∷ ps) (o ∷ os) rise all (suc k) lt =
    subst (λ (n : ℕ). IsObject (slice_index_or (with_parents ps os) k no_object) n) (omega arith)
    (object_there (before + 1) ps os rise.1 (All-tail IsAlone o os all) k (omega (arith, lt)))

pub objects_placed : (before : ℕ) (ps : List ℕ) (os : List ObjectOf) → Rise before ps → All IsAlone os → (k : ℕ)
    → k < length (with_parents ps os) → IsObject (object_at (with_parents ps os) (k + 1)) (before + k)
objects_placed before ps os rise all k lt =
    let next : k + 1 ≡ suc k = omega arith in
    subst (λ (n : ℕ). IsObject (object_at (with_parents ps os) n) (before + k)) (sym next)
    (object_there before ps os rise all k lt)

-- Defaults

exactly_many : (n : ℕ) (ws : List ℕ) → length (exactly n ws) ≡ n
exactly_many zero ws = refl
exactly_many (suc n) [] = ap suc (exactly_many n [])
exactly_many (suc n) (w ∷ ws) = ap suc (exactly_many n ws)

exactly_small : (n : ℕ) (ws : List ℕ) → All (λ w. w < 65536) ws → All (λ w. w < 65536) (exactly n ws)
exactly_small zero ws h = All-nil (λ w. w < 65536)
exactly_small (suc n) [] h = All-cons (λ w. w < 65536) 0 (exactly n []) (omega arith) (exactly_small n [] h)
exactly_small (suc n) (w ∷ ws) h = All-cons (λ w. w < 65536) w (exactly n ws) (All-head (λ w. w < 65536) w ws h)
    (exactly_small n ws (All-tail (λ w. w < 65536) w ws h))

given_small : (file : File) (ds : List DirectiveTree) → All (λ w. w < 65536) (defaults_in file ds)
given_small file [] = All-nil (λ w. w < 65536)
given_small file (global n v ∷ ds) = given_small file ds
given_small file (constant n v ∷ ds) = given_small file ds
given_small file (array a ∷ ds) = given_small file ds
given_small file (attribute n ∷ ds) = given_small file ds
given_small file (property n v ∷ ds) = All-cons (λ w. w < 65536) (initial_value file v % 65536) (defaults_in file ds)
    (omega arith) (given_small file ds)
given_small file (object o ∷ ds) = given_small file ds
given_small file (routine r ∷ ds) = given_small file ds

pub defaults_many : (ws : List ℕ) → length (all_defaults ws) ≡ 63
unfolding all_defaults
defaults_many ws = ap suc (exactly_many 62 ws)

pub defaults_small : (file : File) (ds : List DirectiveTree) → All (λ w. w < 65536) (all_defaults (defaults_in file ds))
unfolding all_defaults
defaults_small file ds = All-cons (λ w. w < 65536) 0 (exactly 62 (defaults_in file ds)) (omega arith)
    (exactly_small 62 (defaults_in file ds) (given_small file ds))
