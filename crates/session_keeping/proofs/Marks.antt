-- What is kept of the lines of play reads back.
use Rattle.std.proofs.Common.{◌≡◌, ◌++◌, ℕ, Bool, true, false, List, [], ◌∷◌, Some, refl, ap}
use Rattle.std.specs.Prelude.{option_map}
use Rattle.session_keeping.specs.Lines.{begins_line, is_begun_after, mark_byte, marked, unmarked}

-- what was typed is read out of what was kept of it
pub unmarked_marked : (begun : Bool) (bs : List ℕ) → unmarked begun (marked begun bs) ≡ Some bs
unmarked_marked true [] = refl
unmarked_marked false [] = refl
unmarked_marked true (b ∷ bs) = ap (option_map (λ typed. b ∷ typed)) (unmarked_marked (begins_line b) bs)
unmarked_marked false (b ∷ bs) = ap (option_map (λ typed. b ∷ typed)) (unmarked_marked (begins_line b) bs)

-- what is kept in two steps is what is kept in one
pub marked_after : (begun : Bool) (xs ys : List ℕ)
    → marked begun (xs ++ ys) ≡ marked begun xs ++ marked (is_begun_after begun xs) ys
marked_after begun [] ys = refl
marked_after true (x ∷ xs) ys = ap (λ zs. mark_byte true x ++ zs) (marked_after (begins_line x) xs ys)
marked_after false (x ∷ xs) ys = ap (λ zs. mark_byte false x ++ zs) (marked_after (begins_line x) xs ys)
