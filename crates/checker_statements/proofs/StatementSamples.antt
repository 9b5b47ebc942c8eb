-- Rules of `objectloop`, and what it resolves to, computed.
use Rattle.std.proofs.Common.{◌≡◌, true, [], refl}
use Rattle.std.specs.Prelude.{codes}
use Rattle.syntax_trees.specs.declared.tree.ObjectTest.TheVariants as tests
use Rattle.syntax_trees.specs.Tree.{named, tested}
use Rattle.syntax_statements.specs.Tree.{each, each_in, each_where, break_at, empty}
use Rattle.meaning.specs.Enclosure.{outside}
use Rattle.meaning.specs.declared.resolved.Variable.TheVariants as variables
use Rattle.meaning.specs.Resolved as values
use Rattle.checker_values.specs.Breaches.{at}
use Rattle.checker_values.specs.Names.{key_of}
use Rattle.checker_values.proofs.SampleFile.{p, the, look, seen, box}
use Rattle.checker_statements.specs.Statements.{statement_breaches, resolve_statement}

-- objectloop (g) break;
loops : statement_breaches look outside (each (the 1 (codes "g")) (break_at (p 2))) ≡ []
unfolding key_of
loops = refl

-- objectloop (box) ; and objectloop (x in box) ;
no_variable : statement_breaches look outside (each (the 1 (codes "box")) empty) ≡ at (p 1) 23
unfolding key_of
no_variable = refl

unknown_variable : statement_breaches look outside (each_in (p 0) (the 1 (codes "x")) (box 2) empty) ≡ at (p 1) 20
unfolding key_of
unknown_variable = refl

-- objectloop (g in box) ; and objectloop (g has open) ;
loops_in : resolve_statement seen (each_in (p 0) (the 1 (codes "g")) (box 2) empty)
    ≡ values.each_in (variables.Global 0) (values.number 1) values.empty
unfolding key_of
loops_in = refl

loops_where : resolve_statement seen (each_where (p 0) (the 1 (codes "g"))
    (tested tests.Has (named (the 1 (codes "g"))) (the 2 (codes "open"))) empty)
    ≡ values.each_where (variables.Global 0) (values.has true (values.read (variables.Global 0)) 0) values.empty
unfolding key_of
loops_where = refl
