-- The names of locals, one at a time: the rules that each breaks.
use Rattle.std.proofs.Common.{◌≡◌, ℕ, zero, suc, ◌+◌, ◌<◌, ◌≤◌, Bool, nat_le, List, [], ◌∷◌, ◌++◌, length, take, drop}
use Rattle.std.proofs.Common.{slice_index_or, is_some, cond, refl, sym, ap, ◌∙◌, arith}
use Rattle.std.specs.Prelude.{map}
use Rattle.syntax_trees.specs.declared.tree.Name.{Name}
use Rattle.syntax_trees.specs.Tree.{NameTree}
use Rattle.syntax_trees.specs.Views.{name_tree}
use Rattle.checker_values.specs.declared.breach.Breach.{Breach}
use Rattle.checker_values.specs.declared.noting.Tally.{Tally}
use Rattle.checker_values.specs.Breaches.{at}
use Rattle.checker_values.specs.Names.{Table, key_of, in_table, local_from, has_name, twice}
use Rattle.checker_values.specs.Noted.{noted}
use Rattle.checker_values.specs.Scope.{local_binding}
use Rattle.checker_values.proofs.Noted.{noted_none, noted_two}
use Rattle.checker_statements.proofs.NameTables.{has_number, some_binding, take_more, taken, left}
use Rattle.checker.specs.Programs.{locals_breaches}

-- the rules that one more local breaks
pub locals_next : (m o p : Tally) (t : Table) (names : List Name) (i : ℕ) (d : Name) → i < length names
    → ((k : List ℕ) → in_table t k ≡ local_binding (local_from 0 (map name_tree (take i names)) k))
    → o ≡ noted m (twice t (name_tree (slice_index_or names i d)))
    → p ≡ noted o (cond (nat_le 15 i) (at (name_tree (slice_index_or names i d)).position 24) [])
    → noted p (locals_breaches (map name_tree (take (i + 1) names)) (map name_tree (drop (i + 1) names)))
    ≡ noted m (locals_breaches (map name_tree (take i names)) (map name_tree (drop i names)))
locals_next m o p t names i d lt h a b =
    let j : i + 1 ≡ suc i = omega arith in
    let x : NameTree = name_tree (slice_index_or names i d) in
    let before : List NameTree = map name_tree (take i names) in
    let e : is_some (in_table t (key_of x.text)) ≡ has_name before x = ap is_some (h (key_of x.text))
    ∙ some_binding (local_from 0 before (key_of x.text)) ∙ sym (has_number 0 before x) in
    let a2 : o ≡ noted m (cond (has_name before x) (at x.position 22) []) = a
    ∙ ap (λ (s : Bool). noted m (cond s (at x.position 22) [])) e in
    let b2 : p ≡ noted o (cond (nat_le 15 (length before)) (at x.position 24) []) = b
    ∙ ap (λ (n : ℕ). noted o (cond (nat_le 15 n) (at x.position 24) [])) (sym (taken names i (omega arith))) in
    let rest : List Breach = locals_breaches (before ++ x ∷ []) (map name_tree (drop (suc i) names)) in
    rw (j, take_more names i d lt, left names i d lt)
    (noted_two m o (noted p rest) (cond (has_name before x) (at x.position 22) [])
    (cond (nat_le 15 (length before)) (at x.position 24) [] ++ rest) a2
    (noted_two o p (noted p rest) (cond (nat_le 15 (length before)) (at x.position 24) []) rest b2 refl))

pub locals_end : (m : Tally) (names : List Name) (i : ℕ) (before : List NameTree) → length names ≤ i
    → noted m (locals_breaches before (map name_tree (drop i names))) ≡ m
locals_end m [] zero before h = noted_none m
locals_end m [] (suc i) before h = noted_none m
locals_end m (x ∷ xs) zero before h = absurd (omega arith)
locals_end m (x ∷ xs) (suc i) before h = locals_end m xs i before (omega arith)
