-- Abbreviations, computed: the rules that they break, and what they resolve to.
use Rattle.std.proofs.Common.{◌≡◌, ℕ, zero, suc, ◌+◌, List, [], ◌∷◌, ◌++◌, refl}
use Rattle.std.specs.Prelude.{codes}
use Rattle.syntax_directives.specs.Tree.{TextTree}
use Rattle.syntax.specs.Tree.{ProgramTree}
use Rattle.checker_values.specs.Breaches.{at}
use Rattle.checker_values.specs.Names.{table_of, key_of, look_up}
use Rattle.checker.specs.Programs.{program_breaches, resolve_with, file_of, resolve_program}
use Rattle.checker.proofs.Samples.{p, routine, program}

-- [ Main; ]; with these abbreviations
abbrev abbreviated : List TextTree → ProgramTree
abbreviated ts = record (program (routine (codes "Main") [] [] ∷ [])) { abbreviations = ts }

abbrev text : ℕ → List ℕ → TextTree
text n bytes = record { bytes = bytes; position = p n }

-- Abbreviate "x";
too_short : program_breaches (abbreviated (text 1 (codes "x") ∷ [])) ≡ at (p 1) 33
unfolding program_breaches table_of key_of look_up
too_short = refl

-- Abbreviate "the " "and " "the ";
stands_twice : program_breaches
    (abbreviated (text 1 (codes "the ") ∷ text 2 (codes "and ") ∷ text 3 (codes "the ") ∷ [])) ≡ at (p 3) 33
unfolding program_breaches table_of key_of look_up
stands_twice = refl

-- capitals are other characters, and one may begin with another
unlike : program_breaches
    (abbreviated (text 1 (codes "the") ∷ text 2 (codes "The") ∷ text 3 (codes "the ") ∷ [])) ≡ []
unfolding program_breaches table_of key_of look_up
unlike = refl

-- so many texts that are not alike
abbrev texts : ℕ → ℕ → List TextTree
texts zero n = []
texts (suc k) n = text n (n ∷ 32 ∷ []) ∷ texts k (n + 1)

-- the 97th is one too many, and is so where it is bad too
too_many : program_breaches (abbreviated (texts 96 0 ++ text 96 [] ∷ [])) ≡ at (p 96) 24
unfolding program_breaches table_of key_of look_up
too_many = refl

-- Abbreviate "a^~";
resolves : (resolve_program (abbreviated (text 1 (codes "a^~") ∷ []))).abbreviations ≡ (97 ∷ 13 ∷ 34 ∷ []) ∷ []
unfolding resolve_program resolve_with file_of table_of key_of look_up
resolves = refl
