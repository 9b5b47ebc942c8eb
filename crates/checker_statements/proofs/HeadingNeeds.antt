-- What the parts of a `for` need: those that are there are operands of one form.
use Rattle.std.proofs.Common.{◌≡◌, nat_le, ◌&&◌, Option, Some, None, refl, arith}
use Rattle.std.proofs.lemmas.Bool.Decides.{nat_tests}
use Rattle.syntax_trees.specs.Tree.{ExpressionTree}
use Rattle.checker_statements.specs.Walk.{part_fits, room_after}
use Rattle.checker_statements.specs.Statements.{heading_need}

pub parts_fit : (a b c : Option ExpressionTree)
    → (part_fits a 48 && (part_fits b (room_after a 48) && part_fits c (room_after b (room_after a 48))))
    ≡ nat_le (heading_need a b c) 48
parts_fit None None None = refl
parts_fit None None (Some z) = grind (arith, nat_tests)
parts_fit None (Some y) None = grind (arith, nat_tests)
parts_fit None (Some y) (Some z) = grind (arith, nat_tests)
parts_fit (Some x) None None = grind (arith, nat_tests)
parts_fit (Some x) None (Some z) = grind (arith, nat_tests)
parts_fit (Some x) (Some y) None = grind (arith, nat_tests)
parts_fit (Some x) (Some y) (Some z) = grind (arith, nat_tests)
