-- What is read in the parentheses of an `objectloop`, by what reading its parts gave.
use Rattle.std.proofs.Common.{◌≡◌, ℕ, List, Ok, refl}
use Rattle.syntax_lexer.specs.declared.token.Sign.TheVariants as s
use Rattle.syntax_lexer.specs.Token.{Lexeme, name}
use Rattle.syntax_trees.specs.declared.tree.Name.{Name}
use Rattle.syntax_trees.specs.Tree.{ExpressionTree}
use Rattle.syntax_trees.specs.Views.{name_tree}
use Rattle.syntax_trees.specs.Parse.{head, expect}
use Rattle.syntax_expressions.specs.Parse.{nested, condition}
use Rattle.syntax_expressions.proofs.NamesRead.{name_found}
use Rattle.syntax_statements.specs.PartParse.{loop_of, looped}

pub looped_read : (d : ℕ) (ts us r : List Lexeme) (n : Name) (e : ExpressionTree)
    → head ts ≡ name n.text.now n.position → condition (nested d) ts ≡ Ok (e, us)
    → expect s.CloseParenthesis us ≡ Ok r → looped d ts ≡ Ok (loop_of (name_tree n) e, r)
unfolding looped
looped_read d ts us r n e named read closed = rw (name_found ts n named, read, closed) refl
