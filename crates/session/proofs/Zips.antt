-- Two lists, entry by entry.
use Rattle.std.proofs.Common.{◌≡◌, ℕ, suc, zero, ◌<◌, List, [], ◌∷◌, ◌++◌, length, get_or, take, drop, refl, ap, arith}
use Rattle.std.specs.List.{zip}

pub zip_take : {A B : Type 0} (n : ℕ) (xs : List A) (ys : List B) → take n (zip xs ys) ≡ zip (take n xs) (take n ys)
zip_take zero xs ys = refl
zip_take (suc n) [] ys = refl
zip_take (suc n) (x ∷ xs) [] = refl
zip_take (suc n) (x ∷ xs) (y ∷ ys) = ap (λ t. (x, y) ∷ t) (zip_take n xs ys)

pub zip_push : {A B : Type 0} (xs : List A) (ys : List B) (x : A) (y : B) → length xs ≡ length ys
    → zip (xs ++ x ∷ []) (ys ++ y ∷ []) ≡ zip xs ys ++ (x, y) ∷ []
zip_push [] [] x y e = refl
zip_push [] (b ∷ ys) x y e = absurd (omega (arith, e))
zip_push (a ∷ xs) [] x y e = absurd (omega (arith, e))
zip_push (a ∷ xs) (b ∷ ys) x y e = ap (λ t. (a, b) ∷ t) (zip_push xs ys x y (omega (arith, e)))

zip_none : {A B : Type 0} (xs : List A) (ys : List B) → length ys ≡ 0 → zip xs ys ≡ []
zip_none [] ys e = refl
zip_none (x ∷ xs) [] e = refl
zip_none (x ∷ xs) (y ∷ ys) e = absurd (omega (arith, e))

pub zip_past_one : {A B : Type 0} (xs : List A) (ys : List B) → zip (drop 1 xs) (drop 1 ys) ≡ drop 1 (zip xs ys)
zip_past_one [] ys = refl
zip_past_one (x ∷ xs) [] = zip_none xs [] refl
zip_past_one (x ∷ xs) (y ∷ ys) = refl

-- an entry of both
pub zip_at : {A B : Type 0} (xs : List A) (ys : List B) (k : ℕ) (x : A) (y : B) → k < length xs → k < length ys
    → get_or (zip xs ys) k (x, y) ≡ (get_or xs k x, get_or ys k y)
zip_at [] ys k x y p q = absurd (omega (arith, p))
zip_at (a ∷ xs) [] k x y p q = absurd (omega (arith, q))
zip_at (a ∷ xs) (b ∷ ys) zero x y p q = refl
zip_at (a ∷ xs) (b ∷ ys) (suc k) x y p q = zip_at xs ys k x y (omega (arith, p)) (omega (arith, q))

pub length-zip : {A B : Type 0} (xs : List A) (ys : List B) → length xs ≡ length ys → length (zip xs ys) ≡ length xs
length-zip [] ys e = refl
length-zip (x ∷ xs) [] e = absurd (omega (arith, e))
length-zip (x ∷ xs) (y ∷ ys) e = ap suc (length-zip xs ys (omega (arith, e)))
