-- What branches ask, and the words 1 and 0.
use Rattle.std.proofs.Common.{◌≡◌, ℕ, zero, suc, List, [], ◌∷◌, Bool, true, false, refl, sym, ap, ◌∙◌, subst, arith}
use Rattle.std.specs.Prelude.{◌||◌, ◌==◌, not, nat_lt, if◌then◌else◌}
use Rattle.std.specs.List.{list_any}
use Rattle.std.proofs.lemmas.Bool.{lt-ltb, ne_eqb}
use Rattle.zcore.specs.Arithmetic.{signed_less}
use Rattle.syntax_trees.specs.declared.tree.Comparison.{Comparison}
use Rattle.syntax_trees.specs.declared.tree.Comparison.TheVariants as comparisons
use Rattle.syntax_trees.specs.declared.tree.Containment.{Containment}
use Rattle.syntax_trees.specs.declared.tree.Containment.TheVariants as containments
use Rattle.syntax_trees.specs.declared.tree.Equality.{Equality}
use Rattle.syntax_trees.specs.declared.tree.Equality.TheVariants as equalities
use Rattle.meaning.specs.Meaning.{truth, is_true, equated, compared, contains}
use Rattle.code_drafts.specs.Items.{agrees, comparison_test, comparison_when, equality_when, containment_when}
use Rattle.code_items.specs.Stack.{holds}

pub truth_back : (b : Bool) → is_true (truth b) ≡ b
truth_back true = refl
truth_back false = refl

pub not_not : (b : Bool) → not (not b) ≡ b
not_not true = refl
not_not false = refl

agrees_not : (b when : Bool) → agrees (not b) when ≡ agrees b (not when)
agrees_not true when = refl
agrees_not false when = sym (not_not when)

-- a word is 0 where it is not true
pub zero_agrees : (x : ℕ) (when : Bool) → agrees (x == 0) (not when) ≡ agrees (is_true x) when
zero_agrees zero when = refl
zero_agrees (suc x) when =
    let a : (suc x == 0) ≡ false = ne_eqb _ _ (λ e. omega (arith, e)) in
    let b : nat_lt 0 (suc x) ≡ true = lt-ltb _ _ (omega arith) in
    rw (a, b) (not_not when)

-- a word that is 1 or 0
pub truth_truth : (b : Bool) (v : ℕ) → truth b ≡ v → truth (is_true v) ≡ v
truth_truth true v e = subst (λ x. truth (is_true x) ≡ x) e refl
truth_truth false v e = subst (λ x. truth (is_true x) ≡ x) e refl

-- what comparisons ask of a branch
pub compares : (op : Comparison) (x y : ℕ) (when : Bool) → agrees (is_true (truth (compared op x y))) when
    ≡ agrees (holds (comparison_test op) (x ∷ y ∷ [])) (comparison_when op when)
compares comparisons.Less x y when = ap (λ b. agrees b when) (truth_back (signed_less x y))
compares comparisons.Greater x y when = ap (λ b. agrees b when) (truth_back (signed_less y x))
compares comparisons.LessOrEqual x y when = ap (λ b. agrees b when) (truth_back (not (signed_less y x)))
    ∙ agrees_not (signed_less y x) when
compares comparisons.GreaterOrEqual x y when = ap (λ b. agrees b when) (truth_back (not (signed_less x y)))
    ∙ agrees_not (signed_less x y) when

-- what `==` and `~=` make of whether one is equal
abbrev pub closed : Equality → Bool → Bool
closed equalities.Equal found = found
closed equalities.NotEqual found = not found

pub closes : (op : Equality) (found when : Bool) → agrees (is_true (truth (closed op found))) when
    ≡ agrees found (equality_when op when)
closes equalities.Equal found when = ap (λ b. agrees b when) (truth_back found)
closes equalities.NotEqual found when = ap (λ b. agrees b when) (truth_back (not found)) ∙ agrees_not found when

pub equated_is : (op : Equality) (x : ℕ) (ys : List ℕ) → equated op x ys ≡ closed op (list_any (λ y. x == y) ys)
equated_is equalities.Equal x ys = refl
equated_is equalities.NotEqual x ys = refl

pub or-false : (b : Bool) → (b || false) ≡ b
or-false true = refl
or-false false = refl

pub or-assoc : (a b c : Bool) → ((a || b) || c) ≡ (a || (b || c))
or-assoc true b c = refl
or-assoc false b c = refl

-- what `in`, `notin`, `has` and `hasnt` ask of a branch
pub contains_asks : (op : Containment) (so when : Bool) → agrees (contains op so) when
    ≡ agrees so (containment_when op when)
contains_asks containments.In so when = refl
contains_asks containments.NotIn so when = agrees_not so when

pub has_asks : (positive so when : Bool) → agrees (if positive then so else not so) when
    ≡ agrees so (agrees positive when)
has_asks true so when = refl
has_asks false so when = agrees_not so when
