-- Statements that break no rule: `break` and `continue` stand where they may.
use Rattle.std.proofs.Common.{◌≡◌, Bool, true, false, [], ◌++◌, refl}
use Rattle.std.specs.List.{flat_map}
use Rattle.syntax_lexer.specs.declared.token.Position.{Position}
use Rattle.syntax_statements.specs.Tree as written
use Rattle.syntax_statements.specs.Tree.{StatementTree, StatementTrees, CaseTrees}
use Rattle.meaning.specs.declared.enclosure.Enclosure.{Enclosure}
use Rattle.meaning.specs.Enclosure.{in_loop, in_switch}
use Rattle.meaning.specs.Accepted.{StandsIn, AllStandIn, CasesStandIn}
use Rattle.checker_values.specs.Names.{Seen}
use Rattle.checker_values.proofs.Kept.{left_empty, right_empty}
use Rattle.checker_statements.specs.Statements.{loop_breaches, outside_breaches, whole_breaches, heading_breaches}
use Rattle.checker_statements.specs.Statements.{range_breaches, statement_breaches, statements_breaches, cases_breaches}
use Rattle.checker_statements.specs.Statements.{resolve_statement, resolve_statements, resolve_cases}

allowed : (stands : Bool) (q : Position) → outside_breaches stands q ≡ [] → stands ≡ true
allowed true q h = refl
allowed false q h = absurd cc

module _ (seen : Seen) where
  mutual
    statement_stands : (around : Enclosure) (x : StatementTree) → statement_breaches seen.look around x ≡ []
        → StandsIn around (resolve_statement seen x)
    statement_stands around written.empty h = tt
    statement_stands around (written.block xs) h = statements_stand around xs h
    statement_stands around (written.text_alone s) h = tt
    statement_stands around (written.print is) h = tt
    statement_stands around (written.print_return is) h = tt
    statement_stands around written.new_line h = tt
    statement_stands around (written.if_then q c x) h = statement_stands around x
        (right_empty (whole_breaches seen.look q c) (statement_breaches seen.look around x) h)
    statement_stands around (written.if_else q c x y) h =
        let both = right_empty (whole_breaches seen.look q c)
        (statement_breaches seen.look around x ++ statement_breaches seen.look around y) h in (
          statement_stands around x (left_empty (statement_breaches seen.look around x)
              (statement_breaches seen.look around y) both),
          statement_stands around y (right_empty (statement_breaches seen.look around x)
              (statement_breaches seen.look around y) both),
        )
    statement_stands around (written.while_do q c x) h = statement_stands in_loop x
        (right_empty (whole_breaches seen.look q c) (statement_breaches seen.look in_loop x) h)
    statement_stands around (written.do_until q x c) h = statement_stands in_loop x
        (left_empty (statement_breaches seen.look in_loop x) (whole_breaches seen.look q c) h)
    statement_stands around (written.for_loop q a b c x) h = statement_stands in_loop x
        (right_empty (heading_breaches seen.look q a b c) (statement_breaches seen.look in_loop x) h)
    statement_stands around (written.switch_on q e cs) h = cases_stand (in_switch around) cs
        (right_empty (whole_breaches seen.look q e) (cases_breaches seen.look (in_switch around) cs) h)
    statement_stands around (written.break_at q) h = allowed around.can_break q h
    statement_stands around (written.continue_at q) h = allowed around.can_continue q h
    statement_stands around written.return_alone h = tt
    statement_stands around (written.return_value q e) h = tt
    statement_stands around written.return_true h = tt
    statement_stands around written.return_false h = tt
    statement_stands around written.quit h = tt
    statement_stands around (written.read_line n m) h = tt
    statement_stands around (written.give q e xs) h = tt
    statement_stands around (written.move q a b) h = tt
    statement_stands around (written.remove q e) h = tt
    statement_stands around (written.each n x) h = statement_stands in_loop x
        (right_empty (loop_breaches n.position (seen.look n.text)) (statement_breaches seen.look in_loop x) h)
    statement_stands around (written.each_in q n e x) h =
        let whole = whole_breaches seen.look q e in
        let body = statement_breaches seen.look in_loop x in
        statement_stands in_loop x
        (right_empty whole body (right_empty (loop_breaches n.position (seen.look n.text)) (whole ++ body) h))
    statement_stands around (written.each_where q n e x) h =
        let whole = whole_breaches seen.look q e in
        let body = statement_breaches seen.look in_loop x in
        statement_stands in_loop x
        (right_empty whole body (right_empty (loop_breaches n.position (seen.look n.text)) (whole ++ body) h))
    statement_stands around (written.effect q e) h = tt

    pub statements_stand : (around : Enclosure) (xs : StatementTrees) → statements_breaches seen.look around xs ≡ []
        → AllStandIn around (resolve_statements seen xs)
    statements_stand around written.stop h = tt
    statements_stand around (written.next x xs) h = (
      statement_stands around x (left_empty (statement_breaches seen.look around x)
          (statements_breaches seen.look around xs) h),
      statements_stand around xs (right_empty (statement_breaches seen.look around x)
          (statements_breaches seen.look around xs) h),
    )

    cases_stand : (around : Enclosure) (cs : CaseTrees) → cases_breaches seen.look around cs ≡ []
        → CasesStandIn around (resolve_cases seen cs)
    cases_stand around written.no_case h = tt
    cases_stand around (written.default_case xs) h = statements_stand around xs h
    cases_stand around (written.case gs xs cs) h =
        let ranges = flat_map (range_breaches seen.look) gs in
        let body = statements_breaches seen.look around xs in
        let rest = cases_breaches seen.look around cs in
        let both = right_empty ranges (body ++ rest) h in
        (statements_stand around xs (left_empty body rest both), cases_stand around cs (right_empty body rest both))
