-- Words for the contracts of how a word is spelled in versions 1 and 2.
use Rattle.std.specs.Prelude.{ℕ, List, ◌∷◌, Option, Some, None}

-- Z-characters after one that shifts to their alphabet or locks it
abbrev pub changed : Option ℕ → List ℕ → List ℕ
changed None zs = zs
changed (Some z) zs = z ∷ zs
