-- What is tried after the name of a story that is the name of no file.
use Rattle.std.specs.Prelude.{ℕ, List, [], ◌∷◌, codes}

-- what the names of story files end in, in the order in which they are tried: the versions that compilers make, Blorb
-- files, and the other versions
abbrev pub extensions : List (List ℕ)
extensions = codes "z5" ∷ codes "z8" ∷ codes "z3" ∷ codes "zblorb" ∷ codes "z4" ∷ codes "z7" ∷ codes "zlb"
    ∷ codes "blorb" ∷ codes "blb" ∷ codes "z1" ∷ codes "z2" ∷ codes "z6" ∷ []
