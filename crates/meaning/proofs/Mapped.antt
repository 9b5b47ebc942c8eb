-- Lists, mapped twice.
use Rattle.std.proofs.Common.{◌≡◌, List, [], ◌∷◌, refl}
use Rattle.std.specs.Prelude.{map}

pub mapped_twice : {A B C : Type 0} (f : A → B) (g : B → C) (h : A → C) → ((x : A) → g (f x) ≡ h x) → (xs : List A)
    → map g (map f xs) ≡ map h xs
mapped_twice f g h same [] = refl
mapped_twice f g h same (x ∷ xs) = rw (same x, mapped_twice f g h same xs) refl
