-- A program that breaks no rule: none of its expressions needs more than 48 temporaries.
use Rattle.std.proofs.Common.{◌≡◌, ℕ, ◌≤◌, nat_lt, List, [], ◌∷◌, ◌++◌, Option, cond}
use Rattle.std.specs.List.{flat_map, All}
use Rattle.std.proofs.lemmas.List.Elements.{All-nil, All-cons, All-append}
use Rattle.syntax_lexer.specs.declared.token.Position.{Position}
use Rattle.syntax_trees.specs.Tree.{ExpressionTree}
use Rattle.syntax_statements.specs.PartTree as parts
use Rattle.syntax_statements.specs.PartTree.{PrintItemTree}
use Rattle.syntax_statements.specs.Tree as trees
use Rattle.syntax_statements.specs.Tree.{StatementTree, StatementTrees, CaseTrees}
use Rattle.syntax_directives.specs.Tree.{DirectiveTree, global, constant, array, attribute, property, object, routine}
use Rattle.syntax.specs.Tree.{ProgramTree}
use Rattle.meaning.specs.declared.enclosure.Enclosure.{Enclosure}
use Rattle.meaning.specs.Enclosure.{in_loop, in_switch, outside}
use Rattle.checker_values.specs.declared.binding.Binding.{Binding}
use Rattle.checker_values.specs.declared.breach.Breach.{Breach}
use Rattle.checker_values.specs.declared.counts.Counts.{Counts}
use Rattle.checker_values.specs.Breaches.{at}
use Rattle.checker_values.specs.Names.{Table, first_table, no_counts, with_directive, counts_after, table_of, look_up, twice}
use Rattle.checker_values.proofs.Kept.{left_empty, right_empty, kept, at_most}
use Rattle.checker_values.specs.Expressions.{breaches}
use Rattle.checker_values.specs.Temporaries.{need}
use Rattle.checker_statements.specs.Statements.{room_breaches, heading_need, move_need, whole_breaches, part_breaches}
use Rattle.checker_statements.specs.Statements.{range_breaches, item_breaches, flag_breaches, loop_breaches}
use Rattle.checker_statements.specs.Statements.{statement_breaches, statements_breaches, cases_breaches}
use Rattle.checker.specs.Programs.{program_breaches, directives_breaches, directive_breaches, locals_breaches}
use Rattle.messages_diagnosis.specs.Needs.{PlacedNeed, HasFew, item_needs, statement_needs, statements_needs}
use Rattle.messages_diagnosis.specs.Needs.{cases_needs, directive_needs, program_needs}

few : (p : Position) (n : ℕ) (rest : List Breach) → room_breaches p n ++ rest ≡ [] → n ≤ 48
few p n rest h =
    let large = cond (nat_lt 48 n) (at p 29) [] in
    at_most 48 n (kept (nat_lt 48 n) p 29 (left_empty large rest h))

alone : (p : Position) (n : ℕ) → n ≤ 48 → All HasFew ((p, n) ∷ [])
alone p n le = All-cons HasFew (p, n) [] le (All-nil HasFew)

-- where names stand for these things
module _ (look : List ℕ → Option Binding) where
  item_few : (i : PrintItemTree) → item_breaches look i ≡ [] → All HasFew (item_needs i)
  item_few (parts.text_item s) h = All-nil HasFew
  item_few (parts.character_item p e) h = alone p (need e) (few p (need e) (breaches look e) h)
  item_few (parts.object_item p e) h = alone p (need e) (few p (need e) (breaches look e) h)
  item_few (parts.number_item p e) h = alone p (need e) (few p (need e) (breaches look e) h)

  items_few : (is : List PrintItemTree) → flat_map (item_breaches look) is ≡ [] → All HasFew (flat_map item_needs is)
  items_few [] h = All-nil HasFew
  items_few (i ∷ is) h =
      let own = item_breaches look i in
      let rest = flat_map (item_breaches look) is in
      All-append HasFew (item_needs i) (flat_map item_needs is) (item_few i (left_empty own rest h))
      (items_few is (right_empty own rest h))

  -- an expression of what begins there, and what follows it
  whole_few : (p : Position) (e : ExpressionTree) → whole_breaches look p e ≡ [] → All HasFew ((p, need e) ∷ [])
  whole_few p e h = alone p (need e) (few p (need e) (breaches look e) h)

  before_few : (p : Position) (e : ExpressionTree) (xs : List PlacedNeed) → whole_breaches look p e ≡ []
      → All HasFew xs → All HasFew ((p, need e) ∷ xs)
  before_few p e xs h all = All-cons HasFew (p, need e) xs (few p (need e) (breaches look e) h) all

  mutual
    statement_few : (around : Enclosure) (x : StatementTree) → statement_breaches look around x ≡ []
        → All HasFew (statement_needs x)
    statement_few around trees.empty h = All-nil HasFew
    statement_few around (trees.block xs) h = statements_few around xs h
    statement_few around (trees.text_alone s) h = All-nil HasFew
    statement_few around (trees.print is) h = items_few is h
    statement_few around (trees.print_return is) h = items_few is h
    statement_few around trees.new_line h = All-nil HasFew
    statement_few around (trees.if_then p c x) h =
        let own = whole_breaches look p c in
        let inside = statement_breaches look around x in
        before_few p c (statement_needs x) (left_empty own inside h) (statement_few around x (right_empty own inside h))
    statement_few around (trees.if_else p c x y) h =
        let own = whole_breaches look p c in
        let first = statement_breaches look around x in
        let second = statement_breaches look around y in
        let both = right_empty own (first ++ second) h in
        before_few p c (statement_needs x ++ statement_needs y) (left_empty own (first ++ second) h)
        (All-append HasFew (statement_needs x) (statement_needs y)
        (statement_few around x (left_empty first second both))
        (statement_few around y (right_empty first second both)))
    statement_few around (trees.while_do p c x) h =
        let own = whole_breaches look p c in
        let inside = statement_breaches look in_loop x in
        before_few p c (statement_needs x) (left_empty own inside h) (statement_few in_loop x (right_empty own inside h))
    statement_few around (trees.do_until p x c) h =
        let own = whole_breaches look p c in
        let inside = statement_breaches look in_loop x in
        before_few p c (statement_needs x) (right_empty inside own h) (statement_few in_loop x (left_empty inside own h))
    statement_few around (trees.for_loop p a b c x) h =
        let rest = part_breaches look a ++ (part_breaches look b ++ part_breaches look c) in
        let own = room_breaches p (heading_need a b c) ++ rest in
        let inside = statement_breaches look in_loop x in
        All-cons HasFew (p, heading_need a b c) (statement_needs x)
        (few p (heading_need a b c) rest (left_empty own inside h))
        (statement_few in_loop x (right_empty own inside h))
    statement_few around (trees.switch_on p e cs) h =
        let own = whole_breaches look p e in
        let inside = cases_breaches look (in_switch around) cs in
        before_few p e (cases_needs cs) (left_empty own inside h)
        (cases_few (in_switch around) cs (right_empty own inside h))
    statement_few around (trees.break_at p) h = All-nil HasFew
    statement_few around (trees.continue_at p) h = All-nil HasFew
    statement_few around trees.return_alone h = All-nil HasFew
    statement_few around (trees.return_value p e) h = whole_few p e h
    statement_few around trees.return_true h = All-nil HasFew
    statement_few around trees.return_false h = All-nil HasFew
    statement_few around trees.quit h = All-nil HasFew
    statement_few around (trees.read_line n m) h = All-nil HasFew
    statement_few around (trees.give p e xs) h =
        whole_few p e (left_empty (whole_breaches look p e) (flat_map (flag_breaches look) xs) h)
    statement_few around (trees.move p a b) h =
        alone p (move_need a b) (few p (move_need a b) (breaches look a ++ breaches look b) h)
    statement_few around (trees.remove p e) h = whole_few p e h
    statement_few around (trees.each n x) h = statement_few in_loop x
        (right_empty (loop_breaches n.position (look n.text)) (statement_breaches look in_loop x) h)
    statement_few around (trees.each_in p n e x) h =
        let own = whole_breaches look p e in
        let inside = statement_breaches look in_loop x in
        let rest = right_empty (loop_breaches n.position (look n.text)) (own ++ inside) h in
        before_few p e (statement_needs x) (left_empty own inside rest)
        (statement_few in_loop x (right_empty own inside rest))
    statement_few around (trees.each_where p n c x) h =
        let own = whole_breaches look p c in
        let inside = statement_breaches look in_loop x in
        let rest = right_empty (loop_breaches n.position (look n.text)) (own ++ inside) h in
        before_few p c (statement_needs x) (left_empty own inside rest)
        (statement_few in_loop x (right_empty own inside rest))
    statement_few around (trees.effect p e) h = whole_few p e h

    statements_few : (around : Enclosure) (xs : StatementTrees) → statements_breaches look around xs ≡ []
        → All HasFew (statements_needs xs)
    statements_few around trees.stop h = All-nil HasFew
    statements_few around (trees.next x xs) h =
        let first = statement_breaches look around x in
        let rest = statements_breaches look around xs in
        All-append HasFew (statement_needs x) (statements_needs xs) (statement_few around x (left_empty first rest h))
        (statements_few around xs (right_empty first rest h))

    cases_few : (around : Enclosure) (cs : CaseTrees) → cases_breaches look around cs ≡ [] → All HasFew (cases_needs cs)
    cases_few around trees.no_case h = All-nil HasFew
    cases_few around (trees.default_case xs) h = statements_few around xs h
    cases_few around (trees.case gs xs cs) h =
        let ranges = flat_map (range_breaches look) gs in
        let body = statements_breaches look around xs in
        let rest = cases_breaches look around cs in
        let both = right_empty ranges (body ++ rest) h in
        All-append HasFew (statements_needs xs) (cases_needs cs) (statements_few around xs (left_empty body rest both))
        (cases_few around cs (right_empty body rest both))

directive_few : (whole table : Table) (counts : Counts) (d : DirectiveTree)
    → directive_breaches whole table counts d ≡ [] → All HasFew (directive_needs d)
directive_few whole table counts (global n v) h = All-nil HasFew
directive_few whole table counts (constant n v) h = All-nil HasFew
directive_few whole table counts (array a) h = All-nil HasFew
directive_few whole table counts (attribute n) h = All-nil HasFew
directive_few whole table counts (property n v) h = All-nil HasFew
directive_few whole table counts (object o) h = All-nil HasFew
directive_few whole table counts (routine r) h =
    let locals = locals_breaches [] r.locals in
    let body = statements_breaches (look_up whole r.locals) outside r.body in
    statements_few (look_up whole r.locals) outside r.body
    (right_empty locals body (right_empty (twice table r.name) (locals ++ body) h))

directives_few : (whole table : Table) (counts : Counts) (ds : List DirectiveTree)
    → directives_breaches whole table counts ds ≡ [] → All HasFew (flat_map directive_needs ds)
directives_few whole table counts [] h = All-nil HasFew
directives_few whole table counts (d ∷ ds) h =
    let own = directive_breaches whole table counts d in
    let next = with_directive whole table counts d in
    let rest = directives_breaches whole next (counts_after counts d) ds in
    All-append HasFew (directive_needs d) (flat_map directive_needs ds)
    (directive_few whole table counts d (left_empty own rest h))
    (directives_few whole next (counts_after counts d) ds (right_empty own rest h))

pub temporaries_few : (p : ProgramTree) → program_breaches p ≡ [] → All HasFew (program_needs p)
unfolding program_breaches
temporaries_few p h =
    directives_few (table_of p.directives) first_table no_counts p.directives
    (left_empty (directives_breaches (table_of p.directives) first_table no_counts p.directives) _ h)
