use Rattle.std.proofs.Common.{◌≡◌, ◌≤◌, ◌+◌, ◌*◌, max, length, take, drop}
use Rattle.std.specs.Prelude.{map, vec_len, vec_capacity}
use Rattle.std.specs.List.{flat_map}
use Rattle.syntax_statements.specs.declared.tree.Statement.{size-Statement}
use Rattle.checker_values.specs.Noted.{noted}
use Rattle.checker_values.specs.Scope.{seen_in}
use Rattle.meaning.specs.Views.{action_of, case_of}
use Rattle.checker_statements.specs.StatementWalk.{resolved_statement, own_statement_breaches, resolved_case}
use Rattle.checker_statements.specs.StatementWalk.{own_case_breaches}
use Rattle.checker_statements.proofs.statement_rules.+statement.Given as goal

abbrev pub decreases-statement : goal.decreases-statement
decreases-statement l = 8 * goal.size-statement l

abbrev pub decreases-boxed_statement : goal.decreases-boxed_statement
decreases-boxed_statement l = 8 * goal.size-boxed_statement l + 1

abbrev pub decreases-all_statements : goal.decreases-all_statements
decreases-all_statements l = 8 * goal.size-all_statements l + 1

abbrev pub decreases-block : goal.decreases-block
decreases-block l = 8 * goal.size-block l + 2

abbrev pub decreases-guarded : goal.decreases-guarded
decreases-guarded l = 8 * goal.size-guarded l + 2

abbrev pub decreases-if_else : goal.decreases-if_else
decreases-if_else l = 8 * max (size-Statement l.first.now.value) (size-Statement l.otherwise.now.value) + 2

abbrev pub decreases-do_until : goal.decreases-do_until
decreases-do_until l = 8 * goal.size-do_until l + 2

abbrev pub decreases-for_loop : goal.decreases-for_loop
decreases-for_loop l = 8 * goal.size-for_loop l + 2

abbrev pub decreases-each : goal.decreases-each
decreases-each l = 8 * goal.size-each l + 2

abbrev pub decreases-traversal : goal.decreases-traversal
decreases-traversal l = 8 * goal.size-traversal l + 3

abbrev pub decreases-all_cases : goal.decreases-all_cases
decreases-all_cases l = 8 * goal.size-all_cases l + 3

abbrev pub decreases-otherwise : goal.decreases-otherwise
decreases-otherwise l = 8 * goal.size-otherwise l + 2

abbrev pub decreases-switch_on : goal.decreases-switch_on
decreases-switch_on l = 8 * goal.size-switch_on l + 4

abbrev pub invariant-all_cases-loop-c : goal.invariant-all_cases-loop-c
invariant-all_cases-loop-c l = record {
  value : map case_of l.found.items ≡ map (resolved_case (seen_in l.scope)) (take l.c-index l.given);
  tally : noted l.tally (flat_map (own_case_breaches (seen_in l.scope) l.around) (drop l.c-index l.given))
      ≡ noted l.fn.tally (flat_map (own_case_breaches (seen_in l.scope) l.around) l.given);
  count : vec_len l.found ≡ l.c-index;
  room : length l.given ≤ vec_capacity l.found;
}

abbrev pub invariant-all_statements-loop-s : goal.invariant-all_statements-loop-s
invariant-all_statements-loop-s l = record {
  value : map action_of l.found.items ≡ map (resolved_statement (seen_in l.scope)) (take l.s-index l.all);
  tally : noted l.tally (flat_map (own_statement_breaches (seen_in l.scope) l.around) (drop l.s-index l.all))
      ≡ noted l.fn.tally (flat_map (own_statement_breaches (seen_in l.scope) l.around) l.all);
  count : vec_len l.found ≡ l.s-index;
  room : length l.all ≤ vec_capacity l.found;
}
