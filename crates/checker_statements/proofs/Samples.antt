-- Rules of `give`, `move` and `remove`, and what these resolve to, computed.
use Rattle.std.proofs.Common.{◌≡◌, ℕ, zero, suc, true, false, [], ◌∷◌, refl}
use Rattle.std.specs.Prelude.{codes}
use Rattle.syntax_trees.specs.declared.tree.Binary.TheVariants as op
use Rattle.syntax_trees.specs.Tree.{ExpressionTree, constant, parenthesised, binary}
use Rattle.syntax_statements.specs.Tree.{give, move, remove}
use Rattle.meaning.specs.Enclosure.{outside}
use Rattle.meaning.specs.Resolved as values
use Rattle.checker_values.specs.Breaches.{at}
use Rattle.checker_values.specs.Names.{key_of}
use Rattle.checker_values.proofs.SampleFile.{p, the, look, seen, box}
use Rattle.checker_statements.specs.Statements.{statement_breaches, resolve_statement}

-- 1 + (1 + (1 + ..)), which needs one more than it has operators
abbrev sum : ℕ → ExpressionTree
sum zero = constant 1
sum (suc n) = binary op.Add (constant 1) (parenthesised (sum n))

-- the operands of a `move` are those of one form
remove_fits : statement_breaches look outside (remove (p 0) (sum 47)) ≡ []
remove_fits = refl

move_does_not : statement_breaches look outside (move (p 0) (constant 1) (sum 47)) ≡ at (p 0) 29
move_does_not = refl

-- give box open ~open;
gives : resolve_statement seen (give (p 0) (box 1) ((true, the 2 (codes "open")) ∷ (false, the 3 (codes "open")) ∷ []))
    ≡ values.give_to (values.number 1) ((true, 0) ∷ (false, 0) ∷ [])
unfolding key_of
gives = refl

-- give box open size;
gives_no_property : statement_breaches look outside
    (give (p 0) (box 1) ((true, the 2 (codes "open")) ∷ (true, the 3 (codes "size")) ∷ [])) ≡ at (p 3) 23
unfolding key_of
gives_no_property = refl
