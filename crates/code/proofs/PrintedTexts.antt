-- The items of a routine print no texts but its own.
use Rattle.std.proofs.Common.{ℕ, ◌+◌, List, [], ◌∷◌, ◌++◌, Bool, true, false, Option, Some, None}
use Rattle.std.specs.Prelude.{◌==◌}
use Rattle.std.specs.List.{All}
use Rattle.std.proofs.lemmas.List.Elements.{All-head, All-tail}
use Rattle.syntax_trees.specs.declared.tree.Relative.{Relative}
use Rattle.syntax_trees.specs.declared.tree.Relative.TheVariants as relatives
use Rattle.meaning.specs.declared.resolved.Variable.{Variable}
use Rattle.meaning.specs.Resolved.{Value, Values, none, more, Printed, Action, Actions, stop, next, CasesOf, RoutineOf}
use Rattle.meaning.specs.Resolved as source
use Rattle.meaning.specs.Meaning.{is_true}
use Rattle.meaning.specs.Printable.{IsPrintableItem, IsPrintableAction, ArePrintableActions, ArePrintableCases}
use Rattle.code_drafts.specs.Items.{Item, Operand, number, variable, push, into, aside, nowhere, operand_of, alone}
use Rattle.code_drafts.specs.Items.{left_of, if_pushed, agrees, value_count, operand_count, branch_count, value_items}
use Rattle.code_drafts.specs.Items.{branch_items, alone_items, Destination, operands_of, is_any_pushed}
use Rattle.code_drafts.specs.Items.{are_more_pushed, argument_place, call_item, arguments_items, is_one_test, turned_back}
use Rattle.code_drafts.specs.Items.{last_back}
use Rattle.code_drafts.specs.Items as items
use Rattle.code_items.specs.Statements.{each_items, relative_items, children_items, printed_count, action_count}
use Rattle.code_items.specs.Statements.{printed_items, prints_items, Exits, exits_to, action_items, actions_items}
use Rattle.code_items.specs.Statements.{return_true, routine_items, once_count, once_items, test_count, test_items}
use Rattle.code_items.specs.Statements.{Group, groups_of, group_count, group_items, last_items, tests_count}
use Rattle.code_items.specs.Statements.{tests_items, over_count, over_items, actions_count, cases_count, cases_items}
use Rattle.code_items.specs.Statements.{until_count, until_items}
use Rattle.code_items.specs.Statements as statements
use Rattle.code.proofs.PrintedLists.{HasPrintableText, Fine, nothing, first, joined, last, pushed_fine, either_fine}
use Rattle.code.proofs.PrintedLists.{moved_fine, after_fine, kept_fine, two_fine}
use Rattle.code.proofs.PrintedOperations.{ValueFine, ValuesFine, prefixed_fine, binary_fine, compare_fine, equal_fine}
use Rattle.code.proofs.PrintedOperations.{entry_fine, assign_entry_fine}
use Rattle.code.proofs.PrintedObjects.{relative_fine, property_fine, property_size_fine, has_fine, provides_fine}
use Rattle.code.proofs.PrintedObjects.{contained_fine, property_word_fine, assign_property_fine}
use Rattle.code.proofs.PrintedObjects.{assign_property_word_fine}

none_fine : ValuesFine none
none_fine = record {
  all = λ at. nothing;
  arguments = λ several at. nothing;
  also = λ at op when t. first _ _ tt (first _ _ tt nothing);
  many = λ at op when t. first _ _ tt nothing;
}

more_fine : (v : Value) (vs : Values) → ValueFine v → ValuesFine vs → ValuesFine (more v vs)
more_fine v vs f g = record {
  all = λ at. joined (if_pushed (operand_of v vs) (value_items at v push) []) _
      (pushed_fine (operand_of v vs) _ (f.value at push)) (g.all (at + operand_count v (operand_of v vs)));
  arguments = λ several at.
      let o = operand_of v vs in
      let place = argument_place several (is_any_pushed (operands_of vs)) in
      joined (if_pushed o (value_items at v place) []) _ (pushed_fine o _ (f.value at place))
      (g.arguments several (at + if_pushed o (value_count v place) 0));
  also = λ at op when t. joined (value_items at v push) _ (f.value at push)
      (first _ _ tt (g.also (at + value_count v push + 1) op when t));
  many = λ at op when t. joined (value_items at v push) _ (f.value at push)
      (first _ _ tt (g.also (at + value_count v push + 1) op when t));
}

-- a call prints no text itself
call_text : (several : Bool) (r : ℕ) (os : List Operand) (d : Destination) → HasPrintableText (call_item several r os d)
call_text true r os d = tt
call_text false r os d = tt

mutual
  value_fine : (v : Value) → ValueFine v
  value_fine (source.number n) = record {
    value = λ at d. moved_fine (number n) d;
    branch = λ at when t. either_fine (agrees (is_true n) when) _ _ (first _ _ tt nothing) nothing;
  }
  value_fine (source.read x) =
      record { value = λ at d. moved_fine (variable x) d; branch = λ at when t. first _ _ tt nothing }
  value_fine (source.call r vs) = record {
    value = λ at d.
        let several = are_more_pushed (operands_of vs) in
        last (arguments_items several at vs) _ ((values_fine vs).arguments several at)
        (call_text several r (operands_of vs) d);
    branch = λ at when t.
        let several = are_more_pushed (operands_of vs) in
        joined (arguments_items several at vs) _ ((values_fine vs).arguments several at)
        (first _ _ (call_text several r (operands_of vs) push) (first _ _ tt nothing));
  }
  value_fine (source.prefixed op v) = prefixed_fine op v (value_fine v)
  value_fine (source.step_before op x) =
      record { value = λ at d. first _ _ tt nothing; branch = λ at when t. first _ _ tt (first _ _ tt nothing) }
  value_fine (source.step_after x op) =
      record {
        value = λ at d. after_fine x op d;
        branch = λ at when t. first _ _ tt (first _ _ tt (first _ _ tt nothing));
      }
  value_fine (source.binary op a b) = binary_fine op a b (value_fine a) (value_fine b)
  value_fine (source.compare op a b) = compare_fine op a b (value_fine a) (value_fine b)
  value_fine (source.equal op a bs) = equal_fine op a bs (value_fine a) (values_fine bs)
  value_fine (source.assign x v) = record {
    value = λ at d. kept_fine x d _ _ ((value_fine v).value at (into x)) ((value_fine v).value at push);
    branch = λ at when t. joined (value_items at v push) _ ((value_fine v).value at push)
        (first _ _ tt (first _ _ tt nothing));
  }
  value_fine (source.entry width n i) = entry_fine width n i (value_fine i)
  value_fine (source.assign_entry width n i v) = assign_entry_fine width n i v (value_fine i) (value_fine v)
  value_fine (source.relative r v) = relative_fine r v (value_fine v)
  value_fine (source.contained op a b) = contained_fine op a b (value_fine a) (value_fine b)
  value_fine (source.has positive v n) = has_fine positive v n (value_fine v)
  value_fine (source.provides v q) = provides_fine v q (value_fine v)
  value_fine (source.property v q) = property_fine v q (value_fine v)
  value_fine (source.property_size v q) = property_size_fine v q (value_fine v)
  value_fine (source.property_word v q i) = property_word_fine v q i (value_fine v) (value_fine i)
  value_fine (source.assign_property v q w) = assign_property_fine v q w (value_fine v) (value_fine w)
  value_fine (source.assign_property_word v q i w) =
      assign_property_word_fine v q i w (value_fine v) (value_fine i) (value_fine w)

  values_fine : (vs : Values) → ValuesFine vs
  values_fine none = none_fine
  values_fine (more v vs) = more_fine v vs (value_fine v) (values_fine vs)

-- Statements

alone_fine : (v : Value) (at : ℕ) → Fine (alone_items at v)
alone_fine v at = pushed_fine (alone v) _ ((value_fine v).value at push)

printed_fine : (i : Printed) → IsPrintableItem i → (at : ℕ) → Fine (printed_items at i)
printed_fine (source.text bytes) h at = first _ _ h nothing
printed_fine (source.character_of v) h at = last (alone_items at v) _ (alone_fine v at) tt
printed_fine (source.number_of v) h at = last (alone_items at v) _ (alone_fine v at) tt
printed_fine (source.name_of v) h at = last (alone_items at v) _ (alone_fine v at) tt

prints_fine : (is : List Printed) → All IsPrintableItem is → (at : ℕ) → Fine (prints_items at is)
prints_fine [] h at = nothing
prints_fine (i ∷ is) h at = joined (printed_items at i) _ (printed_fine i (All-head IsPrintableItem i is h) at)
    (prints_fine is (All-tail IsPrintableItem i is h) (at + printed_count i))

-- Loops and `switch`

once_fine : (v : Option Value) (at : ℕ) → Fine (once_items at v)
once_fine None at = nothing
once_fine (Some v) at = (value_fine v).value at nowhere

test_fine : (v : Option Value) (at end : ℕ) → Fine (test_items at v end)
test_fine None at end = nothing
test_fine (Some v) at end = (value_fine v).branch at false end

group_fine : (g : Group) (at inside : ℕ) → Fine (group_items at g inside)
group_fine (statements.numbers ns) at inside = first _ _ tt nothing
group_fine (statements.range low high) at inside = first _ _ tt (first _ _ tt nothing)

last_fine : (g : Group) (behind : ℕ) → Fine (last_items g behind)
last_fine (statements.numbers ns) behind = first _ _ tt nothing
last_fine (statements.range low high) behind = first _ _ tt (first _ _ tt nothing)

tests_fine : (gs : List Group) (at inside behind : ℕ) → Fine (tests_items at gs inside behind)
tests_fine [] at inside behind = first _ _ tt nothing
tests_fine (g ∷ []) at inside behind = last_fine g behind
tests_fine (g ∷ h ∷ gs) at inside behind =
    joined (group_items at g inside) _ (group_fine g at inside)
    (tests_fine (h ∷ gs) (at + group_count g) inside behind)

over_fine : (later end : ℕ) → Fine (over_items later end)
over_fine later end = either_fine (later == 0) _ _ nothing (first _ _ tt nothing)

-- the test of a `do`
turned_text : (to : ℕ) (i : Item) → HasPrintableText i → HasPrintableText (turned_back to i)
turned_text to (items.branch test os when end) h = tt
turned_text to i h = h

back_fine : (to : ℕ) (is : List Item) → Fine is → Fine (last_back to is)
back_fine to [] h = nothing
back_fine to (i ∷ []) h = first _ _ (turned_text to i (All-head HasPrintableText i [] h.all)) nothing
back_fine to (i ∷ j ∷ is) h =
    first _ _ (All-head HasPrintableText i (j ∷ is) h.all)
    (back_fine to (j ∷ is) (record { all = All-tail HasPrintableText i (j ∷ is) h.all }))

until_fine : (v : Value) (at to : ℕ) → Fine (until_items at to v)
until_fine v at to = either_fine (is_one_test v) _ _
    (back_fine to _ ((value_fine v).branch at true (at + branch_count v true)))
    (last _ _ ((value_fine v).branch at true (at + branch_count v true + 1)) tt)

-- Objects one after another

each_fine : (at : ℕ) (x : Variable) (body : ℕ) (run : Exits → ℕ → List Item)
    → ((inside : Exits) (place : ℕ) → Fine (run inside place)) → Fine (each_items at x body run)
each_fine at x body run h =
    let inside = exits_to (at + 1 + body) (at + 1 + body + 2) in
    first _ _ tt (joined (run inside (at + 1)) _ (h inside (at + 1)) (first _ _ tt (first _ _ tt nothing)))

relatives_fine : (r : Relative) (o : Operand) (x : Variable) (end : ℕ) → Fine (relative_items r o x end)
relatives_fine r o x end = first _ _ tt (first _ _ tt (first _ _ tt nothing))

children_fine : (at : ℕ) (x : Variable) (o : Operand) (body : ℕ) (run : Exits → ℕ → List Item)
    → ((inside : Exits) (place : ℕ) → Fine (run inside place)) → Fine (children_items at x o body run)
children_fine at x o body run h =
    let end = at + 3 + body + 4 in
    let inside = exits_to (at + 3 + body) end in
    joined (relative_items relatives.Child o x end) _ (relatives_fine relatives.Child o x end)
    (joined (run inside (at + 3)) _ (h inside (at + 3))
    (joined (relative_items relatives.Sibling (variable x) x end) _
    (relatives_fine relatives.Sibling (variable x) x end) (first _ _ tt nothing)))

mutual
  action_fine : (x : Exits) (a : Action) → IsPrintableAction a → (at : ℕ) → Fine (action_items x at a)
  action_fine x source.empty h at = nothing
  action_fine x (source.block xs) h at = actions_fine x xs h at
  action_fine x (source.text_alone bytes) h at = first _ _ h (first _ _ tt (first _ _ tt nothing))
  action_fine x (source.print is) h at = prints_fine is h at
  action_fine x (source.print_return is) h at =
      joined (prints_items at is) _ (prints_fine is h at) (first _ _ tt (first _ _ tt nothing))
  action_fine x source.new_line h at = first _ _ tt nothing
  action_fine x (source.if_then v a) h at =
      joined (branch_items at v false _) _ ((value_fine v).branch at false _)
      (action_fine x a h (at + branch_count v false))
  action_fine x (source.if_else v a b) h at =
      joined (branch_items at v false _) _ ((value_fine v).branch at false _)
      (joined (action_items x (at + branch_count v false) a) _ (action_fine x a h.0 (at + branch_count v false))
      (first _ _ tt (action_fine x b h.1 (at + branch_count v false + action_count a + 1))))
  action_fine x (source.while_do v a) h at =
      let inside = exits_to (at + branch_count v false + action_count a)
      (at + branch_count v false + action_count a + 1) in
      joined (branch_items at v false _) _ ((value_fine v).branch at false _)
      (last (action_items inside (at + branch_count v false) a) _
      (action_fine inside a h (at + branch_count v false)) tt)
  action_fine x (source.do_until a v) h at =
      let end = at + action_count a + until_count v in
      joined (action_items (exits_to (at + action_count a) end) at a) _
      (action_fine (exits_to (at + action_count a) end) a h at)
      (until_fine v (at + action_count a) at)
  action_fine x (source.for_loop before test behind a) h at =
      let tested = at + once_count before in
      let inside = tested + test_count test in
      let done = inside + action_count a in
      let end = done + once_count behind + 1 in
      joined (once_items at before) _ (once_fine before at)
      (joined (test_items tested test end) _ (test_fine test tested end)
      (joined (action_items (exits_to done end) inside a) _ (action_fine (exits_to done end) a h inside)
      (last (once_items done behind) _ (once_fine behind done) tt)))
  action_fine x (source.switch_on v cs) h at =
      let tested = at + value_count v aside in
      let end = tested + cases_count cs in
      joined (value_items at v aside) _ ((value_fine v).value at aside)
      (cases_fine (record x { breaks = end }) cs h tested end)
  action_fine x source.break_out h at = first _ _ tt nothing
  action_fine x source.continue_on h at = first _ _ tt nothing
  action_fine x (source.read_line t p) h at = first _ _ tt nothing
  action_fine x (source.give_to v changes) h at = last (alone_items at v) _ (alone_fine v at) tt
  action_fine x (source.move_to v w) h at =
      two_fine (left_of v w) (alone w) _ _ _ ((value_fine v).value at push)
      ((value_fine w).value (at + operand_count v (left_of v w)) push) (first _ _ tt nothing)
  action_fine x (source.remove_from v) h at = last (alone_items at v) _ (alone_fine v at) tt
  action_fine x (source.each_object y a) h at =
      each_fine at y (action_count a) (λ inside place. action_items inside place a)
      (λ inside place. action_fine inside a h place)
  action_fine x (source.each_where y v a) h at =
      each_fine at y (branch_count v false + action_count a)
      (λ inside place.
      branch_items place v false (place + branch_count v false + action_count a)
      ++ action_items inside (place + branch_count v false) a)
      (λ inside place.
      joined (branch_items place v false _) _ ((value_fine v).branch place false _)
      (action_fine inside a h (place + branch_count v false)))
  action_fine x (source.each_in y v a) h at =
      joined (alone_items at v) _ (alone_fine v at)
      (children_fine (at + operand_count v (alone v)) y (alone v) (action_count a)
      (λ inside place. action_items inside place a) (λ inside place. action_fine inside a h place))
  action_fine x (source.return_value v) h at = last (alone_items at v) _ (alone_fine v at) tt
  action_fine x source.quit h at = first _ _ tt nothing
  action_fine x (source.effect v) h at = (value_fine v).value at nowhere

  actions_fine : (x : Exits) (xs : Actions) → ArePrintableActions xs → (at : ℕ) → Fine (actions_items x at xs)
  actions_fine x stop h at = nothing
  actions_fine x (next a rest) h at =
      joined (action_items x at a) _ (action_fine x a h.0 at) (actions_fine x rest h.1 (at + action_count a))

  cases_fine : (x : Exits) (cs : CasesOf) → ArePrintableCases cs → (at end : ℕ) → Fine (cases_items x at cs end)
  cases_fine x source.no_case h at end = nothing
  cases_fine x (source.default_case xs) h at end = actions_fine x xs h at
  cases_fine x (source.case gs xs rest) h at end =
      let groups = groups_of gs in
      let inside = at + tests_count groups in
      let later = inside + actions_count xs + over_count (cases_count rest) in
      joined (tests_items at groups inside later) _ (tests_fine groups at inside later)
      (joined (actions_items x inside xs) _ (actions_fine x xs h.0 inside)
      (joined (over_items (cases_count rest) end) _ (over_fine (cases_count rest) end)
      (cases_fine x rest h.1 later end)))

pub texts_printable : (r : RoutineOf) → ArePrintableActions r.body → All HasPrintableText (routine_items r)
texts_printable r h =
    let x = exits_to (actions_count r.body) (actions_count r.body) in
    (joined (actions_items x 0 r.body) (return_true ∷ []) (actions_fine x r.body h 0) (first _ _ tt nothing)).all
