-- Explanations that stand in one table after another.
use Rattle.std.proofs.Common.{◌≡◌, List, ◌++◌, Bool, Some, None, find, sym, ap, ◌∙◌}
use Rattle.std.specs.Option.{option_or}
use Rattle.std.proofs.lemmas.List.Folds.{find-append}

-- what is found in the first is found in both
pub found_before : {X : Type 0} (p : X → Bool) (xs ys : List X) (x : X) → Some x ≡ find p xs
    → Some x ≡ find p (xs ++ ys)
found_before p xs ys x e = sym (find-append p xs ys ∙ ap (λ o. option_or o (find p ys)) (sym e))

-- where the first has none, the second answers
pub found_behind : {X : Type 0} (p : X → Bool) (xs ys : List X) → None ≡ find p xs
    → find p (xs ++ ys) ≡ find p ys
found_behind p xs ys e = find-append p xs ys ∙ ap (λ o. option_or o (find p ys)) (sym e)
