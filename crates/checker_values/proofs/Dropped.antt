-- What is left of a list after its first ones.
use Rattle.std.proofs.Common.{◌≡◌, ℕ, zero, suc, ◌+◌, ◌<◌, ◌≤◌, List, [], ◌∷◌, length, drop, slice_index_or, refl, sym}
use Rattle.std.proofs.Common.{ap, ◌∙◌, arith}
use Rattle.std.specs.Prelude.{map}
use Rattle.syntax_directives.specs.declared.tree.Directive.{Directive}
use Rattle.syntax_directives.specs.Views.{directive_tree}
use Rattle.checker_values.specs.declared.counts.Counts.{Counts}
use Rattle.checker_values.specs.Names.{Table, counts_after, table_from, with_directive}

-- what is left of a list, before one of it and at the end
pub drop_cons : {A : Type 0} (xs : List A) (i : ℕ) (x : A) → i < length xs
    → drop i xs ≡ slice_index_or xs i x ∷ drop (suc i) xs
drop_cons [] i x h = absurd (omega arith)
drop_cons (y ∷ ys) zero x h = refl
drop_cons (y ∷ ys) (suc i) x h = drop_cons ys i x (omega arith)

pub drop_here : {A : Type 0} (xs : List A) (i : ℕ) (x : A) → i < length xs → x ≡ slice_index_or xs i x
    → drop i xs ≡ x ∷ drop (i + 1) xs
drop_here {A = A} xs i x h is = let j : i + 1 ≡ suc i = omega arith in
    rw j (drop_cons xs i x h ∙ ap (λ (y : A). y ∷ drop (suc i) xs) (sym is))

pub drop_end : {A : Type 0} (xs : List A) (i : ℕ) → length xs ≤ i → drop i xs ≡ []
drop_end [] zero h = refl
drop_end [] (suc i) h = refl
drop_end (x ∷ xs) zero h = absurd (omega arith)
drop_end (x ∷ xs) (suc i) h = drop_end xs i (omega arith)

-- the names of what is left, before one directive and after it
pub named_more : (whole t u : Table) (a b : Counts) (ds : List Directive) (i : ℕ) (x : Directive) → i < length ds
    → x ≡ slice_index_or ds i x → u ≡ with_directive whole t a (directive_tree x)
    → b ≡ counts_after a (directive_tree x)
    → table_from whole u b (map directive_tree (drop (i + 1) ds)) ≡ table_from whole t a (map directive_tree (drop i ds))
named_more whole t u a b ds i x lt is hu hb = rw (drop_here ds i x lt is, hu, hb) refl
