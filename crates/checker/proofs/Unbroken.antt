-- Statements that break no rule: what they resolve to is within the limits.
use Rattle.std.proofs.Common.{◌≡◌, ◌≢◌, ◌==◌, ℕ, ◌<◌, nat_lt, Bool, false, List, [], ◌∷◌, ◌++◌, length, Option, Some}
use Rattle.std.proofs.Common.{None, cond, arith}
use Rattle.std.specs.Prelude.{map}
use Rattle.std.specs.List.{flat_map, All}
use Rattle.std.proofs.lemmas.Bool.Decides.{nat_tests}
use Rattle.std.proofs.lemmas.List.Elements.{All-nil, All-cons}
use Rattle.syntax_lexer.specs.declared.token.Position.{Position}
use Rattle.syntax_trees.specs.Tree.{NameTree}
use Rattle.syntax_statements.specs.PartTree as printed
use Rattle.syntax_statements.specs.PartTree.{FlagTree, PrintItemTree}
use Rattle.syntax_statements.specs.Tree as written
use Rattle.syntax_statements.specs.Tree.{StatementTree, StatementTrees, CaseTrees}
use Rattle.meaning.specs.declared.enclosure.Enclosure.{Enclosure}
use Rattle.meaning.specs.Resolved.{ProgramOf}
use Rattle.meaning.specs.Enclosure.{in_loop, in_switch}
use Rattle.meaning.specs.Accepted.{IsPrinted, IsAction, AreActions, AreCases}
use Rattle.checker_values.specs.declared.binding.Binding.{Binding}
use Rattle.checker_values.specs.declared.binding.Binding.TheVariants as bindings
use Rattle.checker_values.specs.Breaches.{at}
use Rattle.checker_values.specs.Names.{Seen}
use Rattle.checker_values.proofs.Kept.{left_empty, right_empty, kept, at_most}
use Rattle.checker_values.specs.Expressions.{breaches, array_of_binding}
use Rattle.checker_statements.specs.Buffers.{buffer_breaches, is_array, same_breaches, read_breaches}
use Rattle.checker_statements.specs.Statements.{loop_breaches, flag_breaches, move_need, resolve_flag, whole_breaches}
use Rattle.checker_statements.specs.Statements.{heading_breaches, range_breaches, item_breaches, statement_breaches}
use Rattle.checker_statements.specs.Statements.{statements_breaches, cases_breaches, resolve_item, resolve_statement}
use Rattle.checker_statements.specs.Statements.{resolve_statements, resolve_cases}
use Rattle.checker.proofs.NeedsBelow.{need_below}
use Rattle.checker.proofs.MeantNames.{buffer_within, attribute_within, loop_within, IsMeant}
use Rattle.checker.proofs.UnbrokenValues.{value_within, whole_within, heading_within}

-- two arrays of bytes that are not one

second_apart : (q : Position) (a : ℕ) (o : Option Binding) → buffer_breaches q o ≡ []
    → cond (is_array a o) (at q 23) [] ≡ [] → a ≢ array_of_binding o
second_apart q a None h k = absurd cc
second_apart q a (Some (bindings.Constant n)) h k = absurd cc
second_apart q a (Some (bindings.Global g)) h k = absurd cc
second_apart q a (Some (bindings.Array b kind)) h k = λ e. differ (kept (a == b) q 23 k) e
  where
    differ : (a == b) ≡ false → a ≡ b → ⊥
    differ f e = grind (arith, nat_tests)
second_apart q a (Some (bindings.Routine r n)) h k = absurd cc
second_apart q a (Some (bindings.Attribute x)) h k = absurd cc
second_apart q a (Some (bindings.Property x)) h k = absurd cc
second_apart q a (Some (bindings.Object x)) h k = absurd cc
second_apart q a (Some (bindings.Local l)) h k = absurd cc

apart : (p q : Position) (first second : Option Binding) → buffer_breaches p first ≡ []
    → buffer_breaches q second ≡ [] → same_breaches q first second ≡ []
    → array_of_binding first ≢ array_of_binding second
apart p q None second g h k = absurd cc
apart p q (Some (bindings.Constant n)) second g h k = absurd cc
apart p q (Some (bindings.Global x)) second g h k = absurd cc
apart p q (Some (bindings.Array a kind)) second g h k = second_apart q a second h k
apart p q (Some (bindings.Routine r n)) second g h k = absurd cc
apart p q (Some (bindings.Attribute x)) second g h k = absurd cc
apart p q (Some (bindings.Property x)) second g h k = absurd cc
apart p q (Some (bindings.Object x)) second g h k = absurd cc
apart p q (Some (bindings.Local l)) second g h k = absurd cc

-- in a routine with so many locals of this program, where each name is meant so
module _ (p : ProgramOf) (locals : ℕ) (seen : Seen) (meant : (name : List ℕ) → IsMeant p locals (seen.look name)) where
  -- the two arrays of a `read`
  buffers_within : (n m : NameTree) → read_breaches seen.look n m ≡ []
      → (array_of_binding (seen.look n.text) < length p.arrays)
      × (array_of_binding (seen.look m.text) < length p.arrays)
      × (array_of_binding (seen.look n.text) ≢ array_of_binding (seen.look m.text))
  buffers_within n m h =
      let first = buffer_breaches n.position (seen.look n.text) in
      let second = buffer_breaches m.position (seen.look m.text) in
      let same = same_breaches m.position (seen.look n.text) (seen.look m.text) in
      let here = left_empty first (second ++ same) h in
      let rest = right_empty first (second ++ same) h in (
        buffer_within p locals n.position (seen.look n.text) (meant n.text) here,
        buffer_within p locals m.position (seen.look m.text) (meant m.text) (left_empty second same rest),
        apart n.position m.position (seen.look n.text) (seen.look m.text) here (left_empty second same rest)
            (right_empty second same rest),
      )

  item_within : (i : PrintItemTree) → item_breaches seen.look i ≡ [] → IsPrinted p locals (resolve_item seen i)
  item_within (printed.text_item s) h = tt
  item_within (printed.character_item q e) h = whole_within p locals seen meant q e h
  item_within (printed.object_item q e) h = whole_within p locals seen meant q e h
  item_within (printed.number_item q e) h = whole_within p locals seen meant q e h

  items_within : (is : List PrintItemTree) → flat_map (item_breaches seen.look) is ≡ []
      → All (IsPrinted p locals) (map (resolve_item seen) is)
  items_within [] h = All-nil (IsPrinted p locals)
  items_within (i ∷ is) h =
      All-cons (IsPrinted p locals) (resolve_item seen i) (map (resolve_item seen) is)
      (item_within i (left_empty (item_breaches seen.look i) (flat_map (item_breaches seen.look) is) h))
      (items_within is (right_empty (item_breaches seen.look i) (flat_map (item_breaches seen.look) is) h))

  -- the attributes of a `give`
  flags_within : (xs : List FlagTree) → flat_map (flag_breaches seen.look) xs ≡ []
      → All (λ (c : Bool × ℕ). c.1 < 48) (map (resolve_flag seen) xs)
  flags_within [] h = All-nil (λ (c : Bool × ℕ). c.1 < 48)
  flags_within (x ∷ xs) h =
      let own = flag_breaches seen.look x in
      let rest = flat_map (flag_breaches seen.look) xs in
      All-cons (λ (c : Bool × ℕ). c.1 < 48) (resolve_flag seen x) (map (resolve_flag seen) xs)
      (attribute_within p locals x.1.position (seen.look x.1.text) (meant x.1.text) (left_empty own rest h))
      (flags_within xs (right_empty own rest h))

  mutual
    pub statement_within : (around : Enclosure) (x : StatementTree) → statement_breaches seen.look around x ≡ []
        → IsAction p locals (resolve_statement seen x)
    statement_within around written.empty h = tt
    statement_within around (written.block xs) h = statements_within around xs h
    statement_within around (written.text_alone s) h = tt
    statement_within around (written.print is) h = items_within is h
    statement_within around (written.print_return is) h = items_within is h
    statement_within around written.new_line h = tt
    statement_within around (written.if_then q c x) h = (
      whole_within p locals seen meant q c
          (left_empty (whole_breaches seen.look q c) (statement_breaches seen.look around x) h),
      statement_within around x
          (right_empty (whole_breaches seen.look q c) (statement_breaches seen.look around x) h),
    )
    statement_within around (written.if_else q c x y) h =
        let both = right_empty (whole_breaches seen.look q c)
        (statement_breaches seen.look around x ++ statement_breaches seen.look around y)
        h in (
          whole_within p locals seen meant q c
              (left_empty (whole_breaches seen.look q c)
              (statement_breaches seen.look around x ++ statement_breaches seen.look around y) h),
          statement_within around x (left_empty (statement_breaches seen.look around x)
              (statement_breaches seen.look around y) both),
          statement_within around y (right_empty (statement_breaches seen.look around x)
              (statement_breaches seen.look around y) both),
        )
    statement_within around (written.while_do q c x) h = (
      whole_within p locals seen meant q c
          (left_empty (whole_breaches seen.look q c) (statement_breaches seen.look in_loop x) h),
      statement_within in_loop x
          (right_empty (whole_breaches seen.look q c) (statement_breaches seen.look in_loop x) h),
    )
    statement_within around (written.do_until q x c) h = (
      statement_within in_loop x (left_empty (statement_breaches seen.look in_loop x) (whole_breaches seen.look q c) h),
      whole_within p locals seen meant q c
          (right_empty (statement_breaches seen.look in_loop x) (whole_breaches seen.look q c) h),
    )
    statement_within around (written.for_loop q a b c x) h =
        let parts = heading_within p locals seen meant q a b c
        (left_empty (heading_breaches seen.look q a b c) (statement_breaches seen.look in_loop x) h) in (
          parts.0,
          parts.1,
          parts.2,
          statement_within in_loop x
              (right_empty (heading_breaches seen.look q a b c) (statement_breaches seen.look in_loop x) h),
        )
    statement_within around (written.switch_on q e cs) h = (
      whole_within p locals seen meant q e
          (left_empty (whole_breaches seen.look q e) (cases_breaches seen.look (in_switch around) cs) h),
      cases_within (in_switch around) cs
          (right_empty (whole_breaches seen.look q e) (cases_breaches seen.look (in_switch around) cs) h),
    )
    statement_within around (written.break_at q) h = tt
    statement_within around (written.continue_at q) h = tt
    statement_within around written.return_alone h = (tt, omega arith)
    statement_within around (written.return_value q e) h = whole_within p locals seen meant q e h
    statement_within around written.return_true h = (tt, omega arith)
    statement_within around written.return_false h = (tt, omega arith)
    statement_within around written.quit h = tt
    statement_within around (written.read_line n m) h = buffers_within n m h
    statement_within around (written.give q e xs) h =
        let own = whole_breaches seen.look q e in
        let rest = flat_map (flag_breaches seen.look) xs in
        (whole_within p locals seen meant q e (left_empty own rest h), flags_within xs (right_empty own rest h))
    statement_within around (written.move q a b) h =
        let large = cond (nat_lt 48 (move_need a b)) (at q 29) [] in
        let parts = right_empty large (breaches seen.look a ++ breaches seen.look b) h in
        let few = at_most 48 (move_need a b)
        (kept (nat_lt 48 (move_need a b)) q 29 (left_empty large (breaches seen.look a ++ breaches seen.look b) h)) in
        let first = need_below seen a in
        let second = need_below seen b in (
          value_within p locals seen meant a (left_empty (breaches seen.look a) (breaches seen.look b) parts),
          value_within p locals seen meant b (right_empty (breaches seen.look a) (breaches seen.look b) parts),
          omega (arith, few, first, second),
        )
    statement_within around (written.remove q e) h = whole_within p locals seen meant q e h
    statement_within around (written.each n x) h =
        let own = loop_breaches n.position (seen.look n.text) in
        let body = statement_breaches seen.look in_loop x in (
          loop_within p locals n.position (seen.look n.text) (meant n.text) (left_empty own body h),
          statement_within in_loop x (right_empty own body h),
        )
    statement_within around (written.each_in q n e x) h =
        let own = loop_breaches n.position (seen.look n.text) in
        let whole = whole_breaches seen.look q e in
        let body = statement_breaches seen.look in_loop x in
        let rest = right_empty own (whole ++ body) h in (
          loop_within p locals n.position (seen.look n.text) (meant n.text) (left_empty own (whole ++ body) h),
          whole_within p locals seen meant q e (left_empty whole body rest),
          statement_within in_loop x (right_empty whole body rest),
        )
    statement_within around (written.each_where q n e x) h =
        let own = loop_breaches n.position (seen.look n.text) in
        let whole = whole_breaches seen.look q e in
        let body = statement_breaches seen.look in_loop x in
        let rest = right_empty own (whole ++ body) h in (
          loop_within p locals n.position (seen.look n.text) (meant n.text) (left_empty own (whole ++ body) h),
          whole_within p locals seen meant q e (left_empty whole body rest),
          statement_within in_loop x (right_empty whole body rest),
        )
    statement_within around (written.effect q e) h = whole_within p locals seen meant q e h

    pub statements_within : (around : Enclosure) (xs : StatementTrees) → statements_breaches seen.look around xs ≡ []
        → AreActions p locals (resolve_statements seen xs)
    statements_within around written.stop h = tt
    statements_within around (written.next x xs) h = (
      statement_within around x (left_empty (statement_breaches seen.look around x)
          (statements_breaches seen.look around xs) h),
      statements_within around xs (right_empty (statement_breaches seen.look around x)
          (statements_breaches seen.look around xs) h),
    )

    pub cases_within : (around : Enclosure) (cs : CaseTrees) → cases_breaches seen.look around cs ≡ []
        → AreCases p locals (resolve_cases seen cs)
    cases_within around written.no_case h = tt
    cases_within around (written.default_case xs) h = statements_within around xs h
    cases_within around (written.case gs xs cs) h =
        let ranges = flat_map (range_breaches seen.look) gs in
        let body = statements_breaches seen.look around xs in
        let rest = cases_breaches seen.look around cs in
        let both = right_empty ranges (body ++ rest) h in
        (statements_within around xs (left_empty body rest both), cases_within around cs (right_empty body rest both))
