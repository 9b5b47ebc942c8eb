-- Names, read one by one.
use Rattle.std.proofs.Common.{◌≡◌, ℕ, ◌+◌, ◌-◌, ◌<◌, List, [], ◌∷◌, ◌++◌, length, Ok, Err, refl, ap, arith}
use Rattle.std.specs.Prelude.{map}
use Rattle.syntax_lexer.specs.Token.{Lexeme, name}
use Rattle.syntax_trees.specs.declared.tree.Name.{Name}
use Rattle.syntax_trees.specs.Views.{name_tree}
use Rattle.syntax_trees.specs.Stop.{unfit}
use Rattle.syntax_trees.specs.Parse.{head, tail, repeated}
use Rattle.syntax_trees.proofs.Loops.{joined, repeated_more}
use Rattle.syntax_expressions.specs.PartParse.{is_name, expect_name}
use Rattle.syntax_expressions.proofs.NamesRead.{name_found}
use Rattle.syntax_directives.specs.Parse.{some_on, names, some_names}

pub names_more : (n i : ℕ) (front : List Name) (ts : List Lexeme) (x : Name) → i < n
    → head ts ≡ name x.text.now x.position
    → joined (map name_tree front) (repeated is_name expect_name (n - i) ts)
    ≡ joined (map name_tree (front ++ x ∷ [])) (repeated is_name expect_name (n - (i + 1)) (tail ts))
names_more n i front ts x lt e = repeated_more name_tree is_name expect_name n i front ts x (tail ts) lt (ap is_name e)
    (name_found ts x e)

-- ---- names, at least one

none_found : (xs : List Name) (r : List Lexeme) → length xs ≡ 0 → some_on (map name_tree xs) r ≡ Err (unfit (length r))
none_found [] r e = refl
none_found (x ∷ xs) r e = absurd (omega (arith, e))

pub no_names : (xs : List Name) (ts r : List Lexeme) → names ts ≡ Ok (map name_tree xs, r) → length xs ≡ 0
    → some_names ts ≡ Err (unfit (length r))
unfolding some_names
no_names xs ts r h e = rw h (none_found xs r e)

some_found : (xs : List Name) (r : List Lexeme) → 0 < length xs
    → some_on (map name_tree xs) r ≡ Ok (map name_tree xs, r)
some_found [] r lt = absurd (omega (arith, lt))
some_found (x ∷ xs) r lt = refl

pub names_found : (xs : List Name) (ts r : List Lexeme) → names ts ≡ Ok (map name_tree xs, r) → 0 < length xs
    → some_names ts ≡ Ok (map name_tree xs, r)
unfolding some_names
names_found xs ts r h lt = rw h (some_found xs r lt)
