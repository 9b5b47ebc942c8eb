-- More than 63 properties of an object break a rule: each name of those that it lists stands for a property, none
-- stands there twice, and a file has 62 beside `name`. So in a program that breaks no rule the first 63 are all.
use Rattle.std.proofs.Common.{◌≡◌, ◌≤◌, ◌+◌, ℕ, Bool, true, false, List, [], ◌∷◌, ◌++◌, length, Option, Some, None}
use Rattle.std.proofs.Common.{cond, is_some, refl, sym, ap, ◌∙◌, arith}
use Rattle.std.specs.Prelude.{map}
use Rattle.std.specs.List.{flat_map}
use Rattle.std.specs.Cmp.Lexicographic.{same_text}
use Rattle.std.proofs.lemmas.Cmp.{nat_list_eq_equiv}
use Rattle.std.proofs.lemmas.List.{take_all}
use Rattle.syntax_lexer.specs.declared.token.Position.{Position}
use Rattle.syntax_trees.specs.Tree.{NameTree}
use Rattle.syntax_directives.specs.Tree.{PropertyTree, ObjectTree, DirectiveTree, global, constant, array, attribute}
use Rattle.syntax_directives.specs.Tree.{property, object, routine}
use Rattle.syntax.specs.Tree.{ProgramTree}
use Rattle.checker_values.specs.declared.binding.Binding.{Binding}
use Rattle.checker_values.specs.declared.binding.Binding.TheVariants as bindings
use Rattle.checker_values.specs.declared.counts.Counts.{Counts}
use Rattle.checker_values.specs.Breaches.{at}
use Rattle.checker_values.specs.Names.{Table, File, key_of, same_key, in_table, first_table, no_counts, binding_of}
use Rattle.checker_values.specs.Names.{defined_name, counts_after, with_directive, table_from, table_of, has_name, twice}
use Rattle.checker_values.specs.Names.{repeated_breaches}
use Rattle.checker_values.proofs.Kept.{left_empty, right_empty, kept}
use Rattle.checker_values.specs.Expressions.{property_breaches}
use Rattle.checker_statements.specs.Objects.{property_name, value_breaches, count_breaches, provided_breaches}
use Rattle.checker_statements.specs.Objects.{short_breaches, given_breaches, object_breaches, standing_breaches, object_in}
use Rattle.checker_statements.specs.Objects.{object_trees, objects_in}
use Rattle.checker_statements.specs.FirstListed.{first_listed, first_objects_in}
use Rattle.checker.specs.Programs.{limit_breaches, defaults_in, directive_breaches, directives_breaches, main_key}
use Rattle.checker.specs.Programs.{first_routine, main_breaches, abbreviations_breaches, program_breaches}
use Rattle.checker.proofs.FewDirectives.{after_kept, properties_few}

-- The properties of a table

-- 1 for a property
abbrev is_property : Option Binding → ℕ
is_property None = 0
is_property (Some (bindings.Constant n)) = 0
is_property (Some (bindings.Global g)) = 0
is_property (Some (bindings.Array a kind)) = 0
is_property (Some (bindings.Routine r n)) = 0
is_property (Some (bindings.Attribute a)) = 0
is_property (Some (bindings.Property n)) = 1
is_property (Some (bindings.Object o)) = 0
is_property (Some (bindings.Local l)) = 0

abbrev properties_in : Table → ℕ
properties_in [] = 0
properties_in (e ∷ es) = is_property (Some e.1) + properties_in es

one_more : (t : Table) (k : List ℕ) (b : Binding)
    → properties_in (t ++ (k, b) ∷ []) ≡ properties_in t + is_property (Some b)
one_more [] k b = omega arith
one_more (e ∷ es) k b = let rest = one_more es k b in omega (arith, rest)

perhaps_more : (defined : Bool) (t : Table) (k : List ℕ) (b : Binding)
    → properties_in (cond defined t (t ++ (k, b) ∷ [])) ≤ properties_in t + is_property (Some b)
perhaps_more true t k b = omega arith
perhaps_more false t k b = let all = one_more t k b in omega (arith, all)

-- a definition of a property adds one, and has one default
one_defined : (file : File) (whole t : Table) (counts : Counts) (d : DirectiveTree) (ds : List DirectiveTree)
    → length (defaults_in file (d ∷ ds)) ≡ is_property (Some (binding_of whole t counts d)) + length (defaults_in file ds)
one_defined file whole t counts (global n v) ds = omega arith
one_defined file whole t counts (constant n v) ds = omega arith
one_defined file whole t counts (array a) ds = omega arith
one_defined file whole t counts (attribute n) ds = omega arith
one_defined file whole t counts (property n v) ds = omega arith
one_defined file whole t counts (object o) ds = omega arith
one_defined file whole t counts (routine r) ds = omega arith

table_properties : (file : File) (whole t : Table) (counts : Counts) (ds : List DirectiveTree)
    → properties_in (table_from whole t counts ds) ≤ properties_in t + length (defaults_in file ds)
table_properties file whole t counts [] = omega arith
table_properties file whole t counts (d ∷ ds) =
    let key = key_of (defined_name d).text in
    let one = perhaps_more (is_some (in_table t key)) t key (binding_of whole t counts d) in
    let all = one_defined file whole t counts d ds in
    let rest = table_properties file whole (with_directive whole t counts d) (counts_after counts d) ds in
    omega (arith, one, all, rest)

file_properties : (file : File) (ds : List DirectiveTree)
    → properties_in (table_of ds) ≤ 1 + length (defaults_in file ds)
unfolding table_of
file_properties file ds = table_properties file (table_from [] first_table no_counts ds) first_table no_counts ds

-- Names of which none stands twice

-- how many of some names stand for properties
abbrev named_in : Table → List NameTree → ℕ
named_in t [] = 0
named_in t (n ∷ ns) = is_property (in_table t (key_of n.text)) + named_in t ns

-- so much for each of some names that has a key
abbrev with_key : ℕ → List ℕ → List NameTree → ℕ
with_key much k [] = 0
with_key much k (n ∷ ns) = cond (same_key k (key_of n.text)) much 0 + with_key much k ns

named_same : (before : List NameTree) (x n : NameTree) → key_of x.text ≡ key_of n.text
    → has_name before x ≡ has_name before n
named_same [] x n h = refl
named_same (b ∷ bs) x n h =
    ap (λ (k : List ℕ). cond (same_key (key_of b.text) k) true (has_name bs x)) h
    ∙ ap (λ (c : Bool). cond (same_key (key_of b.text) (key_of n.text)) true c) (named_same bs x n h)

named_more : (before : List NameTree) (n x : NameTree) → has_name before x ≡ true
    → has_name (before ++ n ∷ []) x ≡ true
named_more [] n x h = absurd cc
named_more (b ∷ bs) n x h = go (same_key (key_of b.text) (key_of x.text)) h (λ e. named_more bs n x e)
  where
    go : (c : Bool) → cond c true (has_name bs x) ≡ true
        → (has_name bs x ≡ true → has_name (bs ++ n ∷ []) x ≡ true) → cond c true (has_name (bs ++ n ∷ []) x) ≡ true
    go true e more = refl
    go false e more = more e

named_last : (before : List NameTree) (n : NameTree) → has_name (before ++ n ∷ []) n ≡ true
named_last [] n = ap (λ (c : Bool). cond c true false) (nat_list_eq_equiv.refl (key_of n.text))
named_last (b ∷ bs) n = go (same_key (key_of b.text) (key_of n.text)) (named_last bs n)
  where
    go : (c : Bool) → has_name (bs ++ n ∷ []) n ≡ true → cond c true (has_name (bs ++ n ∷ []) n) ≡ true
    go true last = refl
    go false last = last

apart : true ≡ false → ⊥
apart e = cc

-- a name that stands before does not stand after
none_again : (much : ℕ) (before ns : List NameTree) (x : NameTree) → has_name before x ≡ true
    → repeated_breaches before ns ≡ [] → with_key much (key_of x.text) ns ≡ 0
none_again much before [] x h r = refl
none_again much before (n ∷ ns) x h r =
    let own = cond (has_name before n) (at n.position 22) [] in
    let rest = repeated_breaches (before ++ n ∷ []) ns in
    let fresh : has_name before n ≡ false = kept (has_name before n) n.position 22 (left_empty own rest r) in
    go (same_key (key_of x.text) (key_of n.text)) refl fresh
    (none_again much (before ++ n ∷ []) ns x (named_more before n x h) (right_empty own rest r))
  where
    go : (c : Bool) → c ≡ same_key (key_of x.text) (key_of n.text) → has_name before n ≡ false
        → with_key much (key_of x.text) ns ≡ 0 → cond c much 0 + with_key much (key_of x.text) ns ≡ 0
    go true e fresh none = absurd
        (apart (sym h ∙ named_same before x n (same_text (key_of x.text) (key_of n.text) e) ∙ fresh))
    go false e fresh none = omega (arith, none)

one_with_key : (much : ℕ) (k : List ℕ) (before ns : List NameTree) → repeated_breaches before ns ≡ []
    → with_key much k ns ≤ much
one_with_key much k before [] r = omega arith
one_with_key much k before (n ∷ ns) r =
    let rest = right_empty (cond (has_name before n) (at n.position 22) []) (repeated_breaches (before ++ n ∷ []) ns) r in
    go (same_key k (key_of n.text)) refl (none_again much (before ++ n ∷ []) ns n (named_last before n) rest)
    (one_with_key much k (before ++ n ∷ []) ns rest)
  where
    go : (c : Bool) → c ≡ same_key k (key_of n.text) → with_key much (key_of n.text) ns ≡ 0
        → with_key much k ns ≤ much → cond c much 0 + with_key much k ns ≤ much
    go true e none few =
        let all : with_key much k ns ≡ 0 =
        ap (λ (x : List ℕ). with_key much x ns) (same_text k (key_of n.text) e) ∙ none in
        omega (arith, all)
    go false e none few = omega (arith, few)

-- So no more of them stand for properties than a table has.

none_named : (ns : List NameTree) → named_in [] ns ≡ 0
none_named [] = refl
none_named (n ∷ ns) = let rest = none_named ns in omega (arith, rest)

by_entry : (c : Bool) (b : Binding) (o : Option Binding)
    → is_property (cond c (Some b) o) ≤ cond c (is_property (Some b)) 0 + is_property o
by_entry true b o = omega arith
by_entry false b o = omega arith

entry_named : (e : List ℕ × Binding) (t : Table) (ns : List NameTree)
    → named_in (e ∷ t) ns ≤ with_key (is_property (Some e.1)) e.0 ns + named_in t ns
entry_named e t [] = omega arith
entry_named e t (n ∷ ns) =
    let one = by_entry (same_key e.0 (key_of n.text)) e.1 (in_table t (key_of n.text)) in
    let rest = entry_named e t ns in
    omega (arith, one, rest)

few_named : (t : Table) (ns : List NameTree) → repeated_breaches [] ns ≡ [] → named_in t ns ≤ properties_in t
few_named [] ns r = let none = none_named ns in omega (arith, none)
few_named (e ∷ es) ns r =
    let entry = entry_named e es ns in
    let one = one_with_key (is_property (Some e.1)) e.0 [] ns r in
    let rest = few_named es ns r in
    omega (arith, entry, one, rest)

-- What an object lists

stands_for_one : (p : Position) (o : Option Binding) → property_breaches p o ≡ [] → is_property o ≡ 1
stands_for_one p None h = absurd cc
stands_for_one p (Some (bindings.Constant n)) h = absurd cc
stands_for_one p (Some (bindings.Global g)) h = absurd cc
stands_for_one p (Some (bindings.Array a kind)) h = absurd cc
stands_for_one p (Some (bindings.Routine r n)) h = absurd cc
stands_for_one p (Some (bindings.Attribute a)) h = absurd cc
stands_for_one p (Some (bindings.Property n)) h = refl
stands_for_one p (Some (bindings.Object o)) h = absurd cc
stands_for_one p (Some (bindings.Local l)) h = absurd cc

all_named : (whole : Table) (xs : List PropertyTree) → flat_map (provided_breaches whole) xs ≡ []
    → named_in whole (map property_name xs) ≡ length xs
all_named whole [] h = refl
all_named whole (x ∷ xs) h =
    let own = provided_breaches whole x in
    let others = flat_map (provided_breaches whole) xs in
    let kind = property_breaches x.name.position (in_table whole (key_of x.name.text)) in
    let words = count_breaches x.name.position x.values ++ flat_map (value_breaches whole) x.values in
    let one = stands_for_one x.name.position (in_table whole (key_of x.name.text))
    (left_empty kind words (left_empty own others h)) in
    let rest = all_named whole xs (right_empty own others h) in
    omega (arith, one, rest)

-- the shortcut: the first 63 are all
first_is_whole : (whole : Table) (o : ObjectTree) → properties_in whole ≤ 63 → object_breaches whole o ≡ []
    → first_listed o ≡ o
first_is_whole whole o few h =
    let text = short_breaches o.short in
    let again = repeated_breaches [] (map property_name o.properties) in
    let provided = flat_map (provided_breaches whole) o.properties in
    let given = flat_map (given_breaches whole) o.attributes in
    let rest = right_empty text (again ++ (provided ++ given)) h in
    let all = all_named whole o.properties
    (left_empty provided given (right_empty again (provided ++ given) rest)) in
    let most = few_named whole (map property_name o.properties) (left_empty again (provided ++ given) rest) in
    let short : length o.properties ≤ 63 = omega (arith, all, most, few) in
    ap (λ (ps : List PropertyTree). record o { properties = ps }) (take_all 63 o.properties short)

firsts_are_whole : (file : File) (t : Table) (counts : Counts) (ds : List DirectiveTree)
    → properties_in file.table ≤ 63 → directives_breaches file.table t counts ds ≡ []
    → map first_listed (object_trees ds) ≡ object_trees ds
firsts_are_whole file t counts [] few h = refl
firsts_are_whole file t counts (global n v ∷ ds) few h =
    let d = global n v in
    firsts_are_whole file (with_directive file.table t counts d) (counts_after counts d) ds few
    (after_kept file t counts d ds h)
firsts_are_whole file t counts (constant n v ∷ ds) few h =
    let d = constant n v in
    firsts_are_whole file (with_directive file.table t counts d) (counts_after counts d) ds few
    (after_kept file t counts d ds h)
firsts_are_whole file t counts (array a ∷ ds) few h =
    let d = array a in
    firsts_are_whole file (with_directive file.table t counts d) (counts_after counts d) ds few
    (after_kept file t counts d ds h)
firsts_are_whole file t counts (attribute n ∷ ds) few h =
    let d = attribute n in
    firsts_are_whole file (with_directive file.table t counts d) (counts_after counts d) ds few
    (after_kept file t counts d ds h)
firsts_are_whole file t counts (property n v ∷ ds) few h =
    let d = property n v in
    firsts_are_whole file (with_directive file.table t counts d) (counts_after counts d) ds few
    (after_kept file t counts d ds h)
firsts_are_whole file t counts (object o ∷ ds) few h =
    let d = object o in
    let own = directive_breaches file.table t counts d in
    let later = directives_breaches file.table (with_directive file.table t counts d) (counts_after counts d) ds in
    let many = limit_breaches 2000 counts.objects o.name in
    let one = first_is_whole file.table o few
    (right_empty many (object_breaches file.table o)
    (right_empty (twice t o.name) (many ++ object_breaches file.table o) (left_empty own later h))) in
    let rest = firsts_are_whole file (with_directive file.table t counts d) (counts_after counts d) ds few
    (right_empty own later h) in
    ap (λ (x : ObjectTree). x ∷ map first_listed (object_trees ds)) one
    ∙ ap (λ (os : List ObjectTree). o ∷ os) rest
firsts_are_whole file t counts (routine r ∷ ds) few h =
    let d = routine r in
    firsts_are_whole file (with_directive file.table t counts d) (counts_after counts d) ds few
    (after_kept file t counts d ds h)

pub first_objects : (file : File) (p : ProgramTree) → file.table ≡ table_of p.directives → program_breaches p ≡ []
    → first_objects_in file p.directives ≡ objects_in file p.directives
unfolding program_breaches
first_objects file p is h =
    let ds = p.directives in
    let whole = table_of ds in
    let own : directives_breaches file.table first_table no_counts ds ≡ [] =
    ap (λ (t : Table). directives_breaches t first_table no_counts ds) is
    ∙ left_empty (directives_breaches whole first_table no_counts ds)
    (standing_breaches whole (object_trees ds)
    ++ (abbreviations_breaches [] p.abbreviations
    ++ main_breaches p.end (first_routine ds main_key) (in_table whole main_key))) h in
    let defined = properties_few file first_table no_counts ds (omega arith) own in
    let table = file_properties file ds in
    let few : properties_in file.table ≤ 63 = omega (arith, ap properties_in is, table, defined) in
    ap (λ (os : List ObjectTree). map (object_in file) os) (firsts_are_whole file first_table no_counts ds few own)
