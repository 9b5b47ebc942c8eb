-- Where an array's entry stands, and where none does, by what the code found.
use Rattle.std.proofs.Common.{◌≡◌, false, List, Option, Some, None, refl}
use Rattle.syntax_lexer.specs.Token.{Lexeme, name}
use Rattle.syntax_trees.specs.declared.tree.Name.{Name}
use Rattle.syntax_trees.specs.declared.tree.Width.{Width}
use Rattle.syntax_trees.specs.Views.{name_tree}
use Rattle.syntax_trees.specs.Parse.{head, tail}
use Rattle.syntax_expressions.specs.Operators.{indexing}
use Rattle.syntax_expressions.specs.PartParse.{is_name, array_of, array_at}

pub array_found : (ts : List Lexeme) (n : Name) (width : Width) → indexing (head (tail ts)) ≡ Some width
    → head ts ≡ name n.text.now n.position → array_at ts ≡ Some (name_tree n, width)
unfolding array_at
array_found ts n width i e = rw (i, e) refl

not_a_name : (t : Lexeme) (o : Option Width) → is_name t ≡ false → array_of t o ≡ None
not_a_name (name n p) o e = absurd cc
not_a_name _ o e = refl

pub array_no_name : (ts : List Lexeme) → is_name (head ts) ≡ false → array_at ts ≡ None
unfolding array_at
array_no_name ts e = not_a_name (head ts) (indexing (head (tail ts))) e

pub no_arrow : (t : Lexeme) → array_of t None ≡ None
no_arrow (name n p) = refl
no_arrow _ = refl

pub array_no_arrow : (ts : List Lexeme) → indexing (head (tail ts)) ≡ None → array_at ts ≡ None
unfolding array_at
array_no_arrow ts e = rw e (no_arrow (head ts))
