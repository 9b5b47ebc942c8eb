-- The main file stays the first, and reading ends where nothing is asked for.
use Rattle.std.proofs.Common.{◌≡◌, ℕ, List, [], ◌∷◌, ◌++◌, length, map, get_or, Option, None, sym, ap, subst, arith}
use Rattle.std.specs.Prelude.{IfNone}
use Rattle.inform_places.specs.declared.files.Written.{Written}
use Rattle.inform_places.specs.Source.{bytes_in}
use Rattle.inform.specs.Files.{BeginsWith}

-- where it is the only one
pub begins_alone : (main : List ℕ) (files : List Written) → map bytes_in files ≡ main ∷ [] → BeginsWith main files
begins_alone main [] same = absurd (omega (arith, ap length same))
begins_alone main (file ∷ files) same = ap (λ (x : List (List ℕ)). get_or x 0 main) same

front : (main : List ℕ) (files : List Written) (file : Written) → BeginsWith main files
    → BeginsWith main (files ++ file ∷ [])
front main [] file h = absurd h
front main (first ∷ files) file h = h

-- where one more is read
pub begins_still : (main : List ℕ) (files more : List Written) (file : Written) → more ≡ files ++ file ∷ []
    → BeginsWith main files → BeginsWith main more
begins_still main files more file pushed h = subst (BeginsWith main) (sym pushed) (front main files file h)

-- what holds where there is no value
pub at_none : {X : Type 0} (o : Option X) (P : Type 0) → o ≡ None → IfNone o P → P
at_none {X} o P e h = subst (λ (x : Option X). IfNone x P) e h
