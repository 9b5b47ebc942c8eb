-- Where no constant is defined by a name, no constant's value depends on the objects of the file.
use Rattle.std.proofs.Common.{◌≡◌, Bool, true, false, List, [], ◌∷◌, cond, refl, ap, ◌∙◌}
use Rattle.syntax_statements.specs.PartTree.{number_value, word_value, named_value}
use Rattle.syntax_directives.specs.Tree.{DirectiveTree, global, constant, array, attribute, property, object, routine}
use Rattle.checker_values.specs.declared.binding.Binding.{Binding}
use Rattle.checker_values.specs.declared.counts.Counts.{Counts}
use Rattle.checker_values.specs.Names.{Table, binding_of, counts_after, defined_name, table_from, with_directive, with_name}
use Rattle.checker_values.specs.ByName.{is_by_name, has_by_name}

same_binding : (v w table : Table) (counts : Counts) (d : DirectiveTree) → is_by_name d ≡ false
    → binding_of v table counts d ≡ binding_of w table counts d
same_binding v w table counts (global n x) e = refl
same_binding v w table counts (constant n (number_value k)) e = refl
same_binding v w table counts (constant n (word_value s)) e = refl
same_binding v w table counts (constant n (named_value m)) e = absurd cc
same_binding v w table counts (array a) e = refl
same_binding v w table counts (attribute n) e = refl
same_binding v w table counts (property n x) e = refl
same_binding v w table counts (object o) e = refl
same_binding v w table counts (routine r) e = refl

neither : (b c : Bool) → cond b true c ≡ false → (b ≡ false) × (c ≡ false)
neither true c e = absurd cc
neither false c e = (refl, e)

pub same_table : (v w table : Table) (counts : Counts) (ds : List DirectiveTree) → has_by_name ds ≡ false
    → table_from v table counts ds ≡ table_from w table counts ds
same_table v w table counts [] e = refl
same_table v w table counts (d ∷ ds) e =
    let h : (is_by_name d ≡ false) × (has_by_name ds ≡ false) = neither (is_by_name d) (has_by_name ds) e in
    ap (λ (b : Binding). table_from v (with_name table (defined_name d) b) (counts_after counts d) ds)
    (same_binding v w table counts d h.0)
    ∙ same_table v w (with_directive w table counts d) (counts_after counts d) ds h.1
