-- What the parts of a `for` need: those that are there are operands of one form.
use Rattle.std.proofs.Common.{◌≡◌, ℕ, nat_le, ◌&&◌, Option, Some, None, arith}
use Rattle.std.proofs.lemmas.Bool.Decides.{nat_tests}
use Rattle.syntax_trees.specs.Tree.{ExpressionTree}
use Rattle.checker_values.proofs.Needs.{need_one}
use Rattle.checker_statements.specs.Walk.{part_fits, room_after}
use Rattle.checker_statements.specs.Statements.{heading_need}

pub parts_fit : (a b c : Option ExpressionTree) (room : ℕ)
    → (nat_le 1 room && (part_fits a room && (part_fits b (room_after a room)
    && part_fits c (room_after b (room_after a room)))))
    ≡ nat_le (heading_need a b c) room
parts_fit None None None room = grind (arith, nat_tests)
parts_fit None None (Some z) room = let one = need_one z in grind (arith, nat_tests)
parts_fit None (Some y) None room = let one = need_one y in grind (arith, nat_tests)
parts_fit None (Some y) (Some z) room = let one = need_one y in let two = need_one z in grind (arith, nat_tests)
parts_fit (Some x) None None room = let one = need_one x in grind (arith, nat_tests)
parts_fit (Some x) None (Some z) room = let one = need_one x in let two = need_one z in grind (arith, nat_tests)
parts_fit (Some x) (Some y) None room = let one = need_one x in let two = need_one y in grind (arith, nat_tests)
parts_fit (Some x) (Some y) (Some z) room =
    let one = need_one x in let two = need_one y in let three = need_one z in grind (arith, nat_tests)
