-- Where there are no arrays, no name is that of an array.
use Rattle.std.proofs.Common.{◌≡◌, ◌&&◌, ℕ, Bool, true, false, List, [], ◌∷◌, length, refl, arith}
use Rattle.derive_tokens.specs.Names.{is_among}

pub no_array : (names : List (List ℕ)) (n : List ℕ) (b : Bool) → length names ≡ 0 → false ≡ (is_among names n && b)
no_array [] n b e = refl
no_array (x ∷ names) n b e = absurd (omega (arith, e))

-- nor is what is no array's name
pub no_name : (a b c : Bool) → (a && b) ≡ false → false ≡ (a && (b && c))
no_name true true c e = absurd cc
no_name true false c e = refl
no_name false b c e = refl
