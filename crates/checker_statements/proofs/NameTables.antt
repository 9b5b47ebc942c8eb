-- Names, one at a time: the table of those that came before, and the ones that stand twice.
use Rattle.std.proofs.Common.{◌≡◌, ℕ, zero, suc, ◌+◌, ◌<◌, ◌≤◌, Bool, true, false, List, [], ◌∷◌, ◌++◌, length, take}
use Rattle.std.proofs.Common.{drop, slice_index_or, Option, Some, None, is_some, cond, refl, sym, ap, ◌∙◌, arith}
use Rattle.std.specs.Prelude.{map}
use Rattle.std.specs.Cmp.Lexicographic.{same_text}
use Rattle.syntax_trees.specs.declared.tree.Name.{Name}
use Rattle.syntax_trees.specs.Tree.{NameTree}
use Rattle.syntax_trees.specs.Views.{name_tree}
use Rattle.checker_values.specs.declared.binding.Binding.{Binding}
use Rattle.checker_values.specs.declared.binding.Binding.TheVariants as bindings
use Rattle.checker_values.specs.declared.breach.Breach.{Breach}
use Rattle.checker_values.specs.declared.noting.Tally.{Tally}
use Rattle.checker_values.specs.Breaches.{at}
use Rattle.checker_values.specs.Names.{Table, key_of, same_key, in_table, with_name, local_from, has_name}
use Rattle.checker_values.specs.Noted.{noted}
use Rattle.checker_values.specs.Scope.{either, local_binding}
use Rattle.checker_values.proofs.Noted.{noted_none, noted_two}
use Rattle.checker_values.specs.Names.{twice, repeated_breaches}
use Rattle.checker_statements.specs.Objects.{again}

-- The number of a local

or_local : Option ℕ → Option ℕ → Option ℕ
or_local (Some n) o = Some n
or_local None o = o

or_cond : (c : Bool) (n : ℕ) (x y z : Option ℕ) → x ≡ or_local y z
    → cond c (Some n) x ≡ or_local (cond c (Some n) y) z
unfolding or_local
or_cond true n x y z h = refl
or_cond false n x y z h = h

local_more : (n : ℕ) (before : List NameTree) (l : NameTree) (key : List ℕ)
    → local_from n (before ++ l ∷ []) key ≡ or_local (local_from n before key)
    (cond (same_key (key_of l.text) key) (Some (n + length before)) None)
unfolding or_local
local_more n [] l key = let e : n + 0 ≡ n = omega arith in rw e refl
local_more n (b ∷ bs) l key =
    let e : n + suc (length bs) ≡ (n + 1) + length bs = omega arith in
    rw e (or_cond (same_key (key_of b.text) key) n (local_from (n + 1) (bs ++ l ∷ []) key)
    (local_from (n + 1) bs key) (cond (same_key (key_of l.text) key) (Some ((n + 1) + length bs)) None)
    (local_more (n + 1) bs l key))

some_cond : (c : Bool) (n : ℕ) (b : Bool) (o : Option ℕ) → b ≡ is_some o → cond c true b ≡ is_some (cond c (Some n) o)
some_cond true n b o h = refl
some_cond false n b o h = h

pub has_number : (n : ℕ) (before : List NameTree) (l : NameTree)
    → has_name before l ≡ is_some (local_from n before (key_of l.text))
has_number n [] l = refl
has_number n (b ∷ bs) l = some_cond (same_key (key_of b.text) (key_of l.text)) n (has_name bs l)
    (local_from (n + 1) bs (key_of l.text)) (has_number (n + 1) bs l)

pub some_binding : (o : Option ℕ) → is_some (local_binding o) ≡ is_some o
some_binding None = refl
some_binding (Some n) = refl

-- The table of locals

-- what an entry after the others adds
after_all : (t : Table) (k key : List ℕ) (b : Binding)
    → in_table (t ++ (k, b) ∷ []) key ≡ either (in_table t key) (cond (same_key k key) (Some b) None)
after_all [] k key b = refl
after_all (e ∷ es) k key b = go (same_key e.0 key) (after_all es k key b)
  where
    go : (c : Bool) → in_table (es ++ (k, b) ∷ []) key
        ≡ either (in_table es key) (cond (same_key k key) (Some b) None)
        → cond c (Some e.1) (in_table (es ++ (k, b) ∷ []) key)
        ≡ either (cond c (Some e.1) (in_table es key)) (cond (same_key k key) (Some b) None)
    go true h = refl
    go false h = h

either_local : (o : Option ℕ) (c : Bool) (n : ℕ)
    → either (local_binding o) (cond c (Some (bindings.Local n)) None)
    ≡ local_binding (or_local o (cond c (Some n) None))
unfolding or_local
either_local (Some m) c n = refl
either_local None true n = refl
either_local None false n = refl

apart : false ≡ true → ⊥
apart e = cc

-- a key that has a number keeps it
old_local : (found : Option ℕ) (c : Bool) (n : ℕ) → (c ≡ true → is_some found ≡ true)
    → local_binding found ≡ local_binding (or_local found (cond c (Some n) None))
unfolding or_local
old_local (Some m) c n h = refl
old_local None true n h = absurd (apart (h refl))
old_local None false n h = refl

in_either : (t : Table) (before : List NameTree) (l : NameTree) (n : ℕ) (key : List ℕ) (s : Bool)
    → s ≡ is_some (in_table t (key_of l.text))
    → ((k : List ℕ) → in_table t k ≡ local_binding (local_from 0 before k)) → n ≡ 0 + length before
    → in_table (cond s t (t ++ (key_of l.text, bindings.Local n) ∷ [])) key
    ≡ local_binding (local_from 0 (before ++ l ∷ []) key)
in_either t before l n key true e h len =
    h key
    ∙ old_local (local_from 0 before key) (same_key (key_of l.text) key) (0 + length before)
    (λ (same : same_key (key_of l.text) key ≡ true).
    ap (λ (k : List ℕ). is_some (local_from 0 before k)) (sym (same_text (key_of l.text) key (sym same)))
    ∙ sym (some_binding (local_from 0 before (key_of l.text))) ∙ ap is_some (sym (h (key_of l.text))) ∙ sym e)
    ∙ ap local_binding (sym (local_more 0 before l key))
in_either t before l n key false e h len =
    rw len (after_all t (key_of l.text) key (bindings.Local (0 + length before))
    ∙ ap (λ (o : Option Binding). either o
    (cond (same_key (key_of l.text) key) (Some (bindings.Local (0 + length before))) None)) (h key)
    ∙ either_local (local_from 0 before key) (same_key (key_of l.text) key) (0 + length before)
    ∙ ap local_binding (sym (local_more 0 before l key)))

pub take_more : (names : List Name) (i : ℕ) (d : Name) → i < length names
    → map name_tree (take (suc i) names) ≡ map name_tree (take i names) ++ name_tree (slice_index_or names i d) ∷ []
take_more [] i d h = absurd (omega arith)
take_more (x ∷ xs) zero d h = refl
take_more (x ∷ xs) (suc i) d h = ap (λ r. name_tree x ∷ r) (take_more xs i d (omega arith))

pub taken : (names : List Name) (i : ℕ) → i ≤ length names → length (map name_tree (take i names)) ≡ i
taken names zero h = refl
taken [] (suc i) h = absurd (omega arith)
taken (x ∷ xs) (suc i) h = ap suc (taken xs i (omega arith))

pub left : (names : List Name) (i : ℕ) (d : Name) → i < length names
    → map name_tree (drop i names) ≡ name_tree (slice_index_or names i d) ∷ map name_tree (drop (suc i) names)
left [] i d h = absurd (omega arith)
left (x ∷ xs) zero d h = refl
left (x ∷ xs) (suc i) d h = left xs i d (omega arith)

-- one more local in the table
pub table_next : (t u : Table) (names : List Name) (i : ℕ) (d : Name) → i < length names
    → ((k : List ℕ) → in_table t k ≡ local_binding (local_from 0 (map name_tree (take i names)) k))
    → u ≡ with_name t (name_tree (slice_index_or names i d)) (bindings.Local i) → (key : List ℕ)
    → in_table u key ≡ local_binding (local_from 0 (map name_tree (take (i + 1) names)) key)
table_next t u names i d lt h is key =
    let j : i + 1 ≡ suc i = omega arith in
    let n : i ≡ 0 + length (map name_tree (take i names)) = omega (arith, taken names i (omega arith)) in
    rw (is, j, take_more names i d lt)
    (in_either t (map name_tree (take i names)) (name_tree (slice_index_or names i d)) i key _ refl h n)

-- the rules that one more name breaks
pub few_next : (m o : Tally) (names : List Name) (i : ℕ) (d : Name) → i < length names
    → o ≡ noted m (again (map name_tree (take i names)) (name_tree (slice_index_or names i d)))
    → noted o (repeated_breaches (map name_tree (take (i + 1) names)) (map name_tree (drop (i + 1) names)))
    ≡ noted m (repeated_breaches (map name_tree (take i names)) (map name_tree (drop i names)))
few_next m o names i d lt a =
    let j : i + 1 ≡ suc i = omega arith in
    let x : NameTree = name_tree (slice_index_or names i d) in
    let before : List NameTree = map name_tree (take i names) in
    let rest : List Breach = repeated_breaches (before ++ x ∷ []) (map name_tree (drop (suc i) names)) in
    rw (j, take_more names i d lt, left names i d lt) (noted_two m o (noted o rest) (again before x) rest a refl)

-- the same, by the table of those before
pub repeated_next : (m o : Tally) (t : Table) (names : List Name) (i : ℕ) (d : Name) → i < length names
    → ((k : List ℕ) → in_table t k ≡ local_binding (local_from 0 (map name_tree (take i names)) k))
    → o ≡ noted m (twice t (name_tree (slice_index_or names i d)))
    → noted o (repeated_breaches (map name_tree (take (i + 1) names)) (map name_tree (drop (i + 1) names)))
    ≡ noted m (repeated_breaches (map name_tree (take i names)) (map name_tree (drop i names)))
repeated_next m o t names i d lt h a =
    let x : NameTree = name_tree (slice_index_or names i d) in
    let before : List NameTree = map name_tree (take i names) in
    let e : is_some (in_table t (key_of x.text)) ≡ has_name before x = ap is_some (h (key_of x.text))
    ∙ some_binding (local_from 0 before (key_of x.text)) ∙ sym (has_number 0 before x) in
    few_next m o names i d lt (a ∙ ap (λ (s : Bool). noted m (cond s (at x.position 22) [])) e)

pub repeated_end : (m : Tally) (names : List Name) (i : ℕ) (before : List NameTree) → length names ≤ i
    → noted m (repeated_breaches before (map name_tree (drop i names))) ≡ m
repeated_end m [] zero before h = noted_none m
repeated_end m [] (suc i) before h = noted_none m
repeated_end m (x ∷ xs) zero before h = absurd (omega arith)
repeated_end m (x ∷ xs) (suc i) before h = repeated_end m xs i before (omega arith)
