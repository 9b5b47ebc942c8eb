-- The arrays of directives: of the first of a list, and then of the others.
use Rattle.std.proofs.Common.{◌≡◌, ℕ, ◌+◌, ◌<◌, List, [], ◌∷◌, ◌++◌, length, drop, slice_index_or, append_assoc, refl}
use Rattle.std.proofs.Common.{sym, ap, ◌∙◌}
use Rattle.std.specs.Prelude.{map}
use Rattle.std.specs.List.{concat}
use Rattle.syntax_directives.specs.declared.tree.Directive.{Directive}
use Rattle.syntax_directives.specs.Tree.{DirectiveTree, global, constant, array, attribute, property, object, routine}
use Rattle.syntax_directives.specs.Views.{directive_tree}
use Rattle.checker_values.specs.Names.{File}
use Rattle.checker_values.proofs.Dropped.{drop_here}
use Rattle.checker_values.proofs.Mapped.{nothing_more}
use Rattle.checker_statements.specs.Arrays.{array_bytes, arrays_of}

pub bytes_more : (file : File) (d : DirectiveTree) (ds : List DirectiveTree)
    → concat (arrays_of file (d ∷ ds)) ≡ concat (arrays_of file (d ∷ [])) ++ concat (arrays_of file ds)
bytes_more file (global n v) ds = refl
bytes_more file (constant n v) ds = refl
bytes_more file (attribute n) ds = refl
bytes_more file (property n v) ds = refl
bytes_more file (object o) ds = refl
bytes_more file (array a) ds = ap (λ (x : List ℕ). x ++ concat (arrays_of file ds))
    (nothing_more (array_bytes file a))
bytes_more file (routine r) ds = refl

pub sizes_more : (file : File) (d : DirectiveTree) (ds : List DirectiveTree)
    → map length (arrays_of file (d ∷ ds)) ≡ map length (arrays_of file (d ∷ [])) ++ map length (arrays_of file ds)
sizes_more file (global n v) ds = refl
sizes_more file (constant n v) ds = refl
sizes_more file (attribute n) ds = refl
sizes_more file (property n v) ds = refl
sizes_more file (object o) ds = refl
sizes_more file (array a) ds = refl
sizes_more file (routine r) ds = refl

-- a list that is made of directives, where one more is added
pub list_step : {A : Type 0} (f : List DirectiveTree → List A)
    → ((d : DirectiveTree) (ds : List DirectiveTree) → f (d ∷ ds) ≡ f (d ∷ []) ++ f ds)
    → (old new : List A) (ds : List Directive) (i : ℕ) (x : Directive) → i < length ds → x ≡ slice_index_or ds i x
    → new ≡ old ++ f (directive_tree x ∷ [])
    → new ++ f (map directive_tree (drop (i + 1) ds)) ≡ old ++ f (map directive_tree (drop i ds))
list_step {A = A} f more old new ds i x lt is h =
    ap (λ (q : List A). q ++ f (map directive_tree (drop (i + 1) ds))) h
    ∙ append_assoc old (f (directive_tree x ∷ [])) (f (map directive_tree (drop (i + 1) ds)))
    ∙ ap (λ (q : List A). old ++ q) (sym (more (directive_tree x) (map directive_tree (drop (i + 1) ds))))
    ∙ ap (λ (q : List Directive). old ++ f (map directive_tree q)) (sym (drop_here ds i x lt is))
