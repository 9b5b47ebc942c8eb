-- What the items of a routine name is there.
use Rattle.std.proofs.Common.{◌≡◌, ℕ, ◌+◌, ◌<◌, List, [], ◌∷◌, length, Option, Some, None, Bool, true, false, refl}
use Rattle.std.proofs.Common.{arith, length-append}
use Rattle.std.specs.Prelude.{◌==◌, ◌++◌, if◌then◌else◌}
use Rattle.std.specs.List.{All}
use Rattle.std.proofs.lemmas.List.Elements.{All-head, All-tail}
use Rattle.syntax_trees.specs.declared.tree.Relative.{Relative}
use Rattle.syntax_trees.specs.declared.tree.Relative.TheVariants as relatives
use Rattle.meaning.specs.declared.resolved.Variable.{Variable}
use Rattle.meaning.specs.Resolved.{Value, none, more, Printed, Action, Actions, stop, next, CasesOf}
use Rattle.meaning.specs.Resolved as source
use Rattle.meaning.specs.Accepted.{IsVariable, IsValue, IsPart, IsPrinted, IsAction, AreActions, AreCases}
use Rattle.code_drafts.specs.Items.{aside, nowhere, value_count, value_items, alone, operand_count, branch_count, branch_items, alone_items, Test, less}
use Rattle.code_drafts.specs.Items.{greater, same, Item, Operand, pushed, variable, is_one_test, turned_back, last_back}
use Rattle.code_drafts.specs.Items as items
use Rattle.code_items.specs.Statements.{printed_count, prints_count, action_count, actions_count, printed_items}
use Rattle.code_items.specs.Statements.{prints_items, return_true, Exits, exits_to, action_items, actions_items}
use Rattle.code_items.specs.Statements.{routine_items, once_count, once_items, test_count, test_items, Group, numbers}
use Rattle.code_items.specs.Statements.{range, groups_of, group_count, group_items, last_items, tests_count}
use Rattle.code_items.specs.Statements.{tests_items, over_count, over_items, cases_count, cases_items, each_items}
use Rattle.code_items.specs.Statements.{children_items, relative_items, until_count, until_items}
use Rattle.code_items.specs.Laws.{IsItem, IsOperand, ItemsAreWithin, IsTestedValue}
use Rattle.code_items.proofs.StatementCounts.{actions_length}
use Rattle.code_items.proofs.Fine.{Bounds, Fine, either_fine, first, joined, last, last_two, nothing, operand_fine}
use Rattle.code_items.proofs.Fine.{true_fine}
use Rattle.code_items.proofs.Groups.{IsGroup, are_groups}
use Rattle.code_items.proofs.FineValues.{operand_pushed, two_operands}
use Rattle.code_items.proofs.EachFine.{value_fine}

module _ (here : Bounds) where
  open here use {p, locals, count}

  alone_fine : (v : Value) → IsValue p locals v → (at : ℕ) → at + operand_count v (alone v) < count
      → Fine here (alone_items at v)
  alone_fine v h at lt = operand_pushed here (alone v) v (value_fine here v h) at lt

  printed_fine : (i : Printed) → IsPrinted p locals i → (at : ℕ) → at + printed_count i < count
      → Fine here (printed_items at i)
  printed_fine (source.text bytes) h at lt = first here _ _ tt (nothing here)
  printed_fine (source.character_of v) h at lt =
      last here (alone_items at v) _ (alone_fine v h.0 at (omega (arith, lt)))
      (operand_fine here v none h.0)
  printed_fine (source.number_of v) h at lt = last here (alone_items at v) _ (alone_fine v h.0 at (omega (arith, lt)))
      (operand_fine here v none h.0)
  printed_fine (source.name_of v) h at lt = last here (alone_items at v) _ (alone_fine v h.0 at (omega (arith, lt)))
      (operand_fine here v none h.0)

  prints_fine : (is : List Printed) → All (IsPrinted p locals) is → (at : ℕ) → at + prints_count is < count
      → Fine here (prints_items at is)
  prints_fine [] h at lt = nothing here
  prints_fine (i ∷ is) h at lt =
      joined here (printed_items at i) _
      (printed_fine i (All-head (IsPrinted p locals) i is h) at (omega (arith, lt)))
      (prints_fine is (All-tail (IsPrinted p locals) i is h) (at + printed_count i) (omega (arith, lt)))

  -- The parts of a `for`

  once_fine : (v : Option Value) → IsPart p locals v → (at : ℕ) → at + once_count v < count
      → Fine here (once_items at v)
  once_fine None h at lt = nothing here
  once_fine (Some v) h at lt = (value_fine here v h.0).value at nowhere tt lt

  test_fine : (v : Option Value) → IsPart p locals v → (at end : ℕ) → at + test_count v < count → end < count
      → Fine here (test_items at v end)
  test_fine None h at end lt le = nothing here
  test_fine (Some v) h at end lt le = (value_fine here v h.0).branch at false end lt le

  -- `do`

  -- what leads back instead of out of a loop
  turned_fine : (to : ℕ) (i : Item) → to < count → IsItem p locals count i
      → IsItem p locals count (turned_back to i)
  turned_fine to (items.branch test os when end) lt h = (h.0, h.1, lt)
  turned_fine to i lt h = h

  back_fine : (to : ℕ) (is : List Item) → to < count → Fine here is → Fine here (last_back to is)
  back_fine to [] lt h = nothing here
  back_fine to (i ∷ []) lt h =
      first here _ _ (turned_fine to i lt (All-head (IsItem p locals count) i [] h.all)) (nothing here)
  back_fine to (i ∷ j ∷ is) lt h =
      first here _ _ (All-head (IsItem p locals count) i (j ∷ is) h.all)
      (back_fine to (j ∷ is) lt (record { all = All-tail (IsItem p locals count) i (j ∷ is) h.all }))

  until_fine : (v : Value) → IsValue p locals v → (at to : ℕ) → at + until_count v < count → to < count
      → Fine here (until_items at to v)
  until_fine v h at to lt le = go (is_one_test v) lt
    where
      k : ℕ
      k = branch_count v true

      go : (b : Bool) → at + (if b then k else k + 1) < count
          → Fine here (if b then last_back to (branch_items at v true (at + k))
          else branch_items at v true (at + k + 1) ++ items.back to ∷ [])
      go true lt = back_fine to (branch_items at v true (at + k)) le
          ((value_fine here v h).branch at true (at + k) (omega (arith, lt)) (omega (arith, lt)))
      go false lt = last here (branch_items at v true (at + k + 1)) (items.back to)
          ((value_fine here v h).branch at true (at + k + 1) (omega (arith, lt)) (omega (arith, lt))) le

  -- `switch`

  -- a test of a number, and one of some
  compared : (test : Test) (n : ℕ) (when : Bool) (t : ℕ) → IsTestedValue test 2 → t < count
      → IsItem p locals count (items.case test (n ∷ []) when t)
  compared test n when t is lt = (is, omega arith, lt)

  among : (ns : List ℕ) (when : Bool) (t : ℕ) → IsGroup (numbers ns) → t < count
      → IsItem p locals count (items.case same ns when t)
  among ns when t is lt = let few = is.1 in ((omega arith, omega (arith, few)), is.0, lt)

  group_fine : (g : Group) → IsGroup g → (at inside : ℕ) → at + group_count g < count → inside < count
      → Fine here (group_items at g inside)
  group_fine (numbers ns) h at inside lt li = first here _ _ (among ns true inside h li) (nothing here)
  group_fine (range low high) h at inside lt li =
      first here _ _ (compared less low true (at + 2) refl lt)
      (first here _ _ (compared greater high false inside refl li) (nothing here))

  last_fine : (g : Group) → IsGroup g → (behind : ℕ) → behind < count → Fine here (last_items g behind)
  last_fine (numbers ns) h behind lb = first here _ _ (among ns false behind h lb) (nothing here)
  last_fine (range low high) h behind lb = first here _ _ (compared less low true behind refl lb)
      (first here _ _ (compared greater high true behind refl lb) (nothing here))

  tests_fine : (gs : List Group) → All IsGroup gs → (at inside behind : ℕ) → at + tests_count gs < count
      → inside < count → behind < count → Fine here (tests_items at gs inside behind)
  tests_fine [] h at inside behind lt li lb = first here _ _ lb (nothing here)
  tests_fine (g ∷ []) h at inside behind lt li lb = last_fine g (All-head IsGroup g [] h) behind lb
  tests_fine (g ∷ k ∷ gs) h at inside behind lt li lb =
      joined here (group_items at g inside) _
      (group_fine g (All-head IsGroup g (k ∷ gs) h) at inside (omega (arith, lt)) li)
      (tests_fine (k ∷ gs) (All-tail IsGroup g (k ∷ gs) h) (at + group_count g) inside behind (omega (arith, lt)) li lb)

  over_fine : (later end : ℕ) → end < count → Fine here (over_items later end)
  over_fine later end le =
      either_fine here (later == 0) [] (items.jump end ∷ []) (λ _. nothing here)
      (λ _. first here _ _ le (nothing here))

  -- where statements lead that end there
  abbrev AreThere : Exits → Type 0
  AreThere x = (x.breaks < count) × (x.continues < count)

  -- a loop over objects, whose body has so many items

  each_fine : (at : ℕ) (y : Variable) (body : ℕ) (run : Exits → ℕ → List Item) → IsVariable p locals y
      → at + (1 + body + 2) < count → ((inside : Exits) → AreThere inside → Fine here (run inside (at + 1)))
      → Fine here (each_items at y body run)
  each_fine at y body run hy lt hr =
      let inside = exits_to (at + 1 + body) (at + 1 + body + 2) in
      first here _ _ (hy, omega (arith, lt))
      (last_two here (run inside (at + 1)) _ _ (hr inside (omega (arith, lt), omega (arith, lt)))
      (hy, omega (arith, lt)) (omega (arith, lt)))

  relative_fine : (r : Relative) (o : Operand) (y : Variable) (end : ℕ) → IsOperand p locals o
      → IsVariable p locals y → end < count → Fine here (relative_items r o y end)
  relative_fine r o y end ho hy le =
      first here _ _ (ho, tt) (first here _ _ hy
      (first here _ _ (true_fine here pushed false end tt le) (nothing here)))

  children_fine : (at : ℕ) (y : Variable) (o : Operand) (body : ℕ) (run : Exits → ℕ → List Item)
      → IsVariable p locals y → IsOperand p locals o → at + (3 + body + 4) < count
      → ((inside : Exits) → AreThere inside → Fine here (run inside (at + 3)))
      → Fine here (children_items at y o body run)
  children_fine at y o body run hy ho lt hr =
      let end = at + 3 + body + 4 in
      let inside = exits_to (at + 3 + body) end in
      let sibling = relative_items relatives.Sibling (variable y) y end in
      joined here (relative_items relatives.Child o y end) _
      (relative_fine relatives.Child o y end ho hy (omega (arith, lt)))
      (joined here (run inside (at + 3)) (sibling ++ items.back (at + 3) ∷ [])
      (hr inside (omega (arith, lt), omega (arith, lt)))
      (last here sibling _ (relative_fine relatives.Sibling (variable y) y end hy hy (omega (arith, lt)))
      (omega (arith, lt))))

  mutual
    action_fine : (x : Exits) (a : Action) → AreThere x → IsAction p locals a → (at : ℕ) → at + action_count a < count
        → Fine here (action_items x at a)
    action_fine x source.empty there h at lt = nothing here
    action_fine x (source.block xs) there h at lt = actions_fine x xs there h at lt
    action_fine x (source.text_alone bytes) there h at lt =
        first here _ _ tt (first here _ _ tt (first here _ _ tt (nothing here)))
    action_fine x (source.print is) there h at lt = prints_fine is h at lt
    action_fine x (source.print_return is) there h at lt =
        last_two here (prints_items at is) _ _ (prints_fine is h at (omega (arith, lt))) tt tt
    action_fine x source.new_line there h at lt = first here _ _ tt (nothing here)
    action_fine x (source.if_then v a) there h at lt =
        joined here (branch_items at v false (at + branch_count v false + action_count a)) _
        ((value_fine here v h.0.0).branch at false _ (omega (arith, lt)) (omega (arith, lt)))
        (action_fine x a there h.1 (at + branch_count v false) (omega (arith, lt)))
    action_fine x (source.if_else v a b) there h at lt =
        joined here (branch_items at v false (at + branch_count v false + action_count a + 1)) _
        ((value_fine here v h.0.0).branch at false _ (omega (arith, lt)) (omega (arith, lt)))
        (joined here (action_items x (at + branch_count v false) a) _
        (action_fine x a there h.1 (at + branch_count v false) (omega (arith, lt)))
        (first here _ _ (omega (arith, lt))
        (action_fine x b there h.2 (at + branch_count v false + action_count a + 1) (omega (arith, lt)))))
    action_fine x (source.while_do v a) there h at lt =
        let inside = exits_to (at + branch_count v false + action_count a)
        (at + branch_count v false + action_count a + 1) in
        joined here (branch_items at v false (at + branch_count v false + action_count a + 1)) _
        ((value_fine here v h.0.0).branch at false _ (omega (arith, lt)) (omega (arith, lt)))
        (last here (action_items inside (at + branch_count v false) a) _
        (action_fine inside a (omega (arith, lt), omega (arith, lt)) h.1 (at + branch_count v false)
        (omega (arith, lt))) (omega (arith, lt)))
    action_fine x (source.do_until a v) there h at lt =
        let n = at + action_count a in
        let inside = exits_to n (n + until_count v) in
        joined here (action_items inside at a) _
        (action_fine inside a (omega (arith, lt), omega (arith, lt)) h.0 at (omega (arith, lt)))
        (until_fine v h.1.0 n at (omega (arith, lt)) (omega (arith, lt)))
    action_fine x (source.for_loop before test behind a) there h at lt =
        let top = at + once_count before in
        let n = top + test_count test in
        let m = n + action_count a in
        let e = m + once_count behind + 1 in
        let inside = exits_to m e in
        joined here (once_items at before) _ (once_fine before h.0 at (omega (arith, lt)))
        (joined here (test_items top test e) _ (test_fine test h.1 top e (omega (arith, lt)) (omega (arith, lt)))
        (joined here (action_items inside n a) _
        (action_fine inside a (omega (arith, lt), omega (arith, lt)) h.3 n (omega (arith, lt)))
        (last here (once_items m behind) _ (once_fine behind h.2 m (omega (arith, lt))) (omega (arith, lt)))))
    action_fine x (source.switch_on v cs) there h at lt =
        let n = at + value_count v aside in
        let e = n + cases_count cs in
        let inside : Exits = record x { breaks = e } in
        joined here (value_items at v aside) _ ((value_fine here v h.0.0).value at aside tt (omega (arith, lt)))
        (cases_fine inside cs (omega (arith, lt), there.1) h.1 n e (omega (arith, lt)) (omega (arith, lt)))
    action_fine x source.break_out there h at lt = first here _ _ there.0 (nothing here)
    action_fine x source.continue_on there h at lt = first here _ _ there.1 (nothing here)
    action_fine x (source.read_line t q) there h at lt = first here _ _ h (nothing here)
    action_fine x (source.give_to v changes) there h at lt =
        last here (alone_items at v) _ (alone_fine v h.0.0 at (omega (arith, lt))) (operand_fine here v none h.0.0, h.1)
    action_fine x (source.move_to v w) there h at lt =
        two_operands here v w (value_fine here v h.0) (value_fine here w h.1) at _ (omega (arith, lt))
        (first here _ _ (operand_fine here v (more w none) h.0, operand_fine here w none h.1) (nothing here))
    action_fine x (source.remove_from v) there h at lt =
        last here (alone_items at v) _ (alone_fine v h.0 at (omega (arith, lt))) (operand_fine here v none h.0)
    action_fine x (source.each_object y a) there h at lt =
        each_fine at y (action_count a) (λ inside place. action_items inside place a) h.0 lt
        (λ inside l. action_fine inside a l h.1 (at + 1) (omega (arith, lt)))
    action_fine x (source.each_where y v a) there h at lt =
        let n = branch_count v false in
        each_fine at y (n + action_count a) (λ inside place.
        branch_items place v false (place + n + action_count a) ++ action_items inside (place + n) a) h.0 lt
        (λ inside l.
        joined here (branch_items (at + 1) v false (at + 1 + n + action_count a)) _
        ((value_fine here v h.1.0).branch (at + 1) false _ (omega (arith, lt)) (omega (arith, lt)))
        (action_fine inside a l h.2 (at + 1 + n) (omega (arith, lt))))
    action_fine x (source.each_in y v a) there h at lt =
        let place = at + operand_count v (alone v) in
        joined here (alone_items at v) _ (alone_fine v h.1.0 at (omega (arith, lt)))
        (children_fine place y (alone v) (action_count a) (λ inside place. action_items inside place a) h.0
        (operand_fine here v none h.1.0) (omega (arith, lt))
        (λ inside l. action_fine inside a l h.2 (place + 3) (omega (arith, lt))))
    action_fine x (source.return_value v) there h at lt =
        last here (alone_items at v) _ (alone_fine v h.0 at (omega (arith, lt)))
        (operand_fine here v none h.0)
    action_fine x source.quit there h at lt = first here _ _ tt (nothing here)
    action_fine x (source.effect v) there h at lt = (value_fine here v h.0).value at nowhere tt lt

    actions_fine : (x : Exits) (xs : Actions) → AreThere x → AreActions p locals xs → (at : ℕ)
        → at + actions_count xs < count → Fine here (actions_items x at xs)
    actions_fine x stop there h at lt = nothing here
    actions_fine x (next a rest) there h at lt =
        joined here (action_items x at a) _ (action_fine x a there h.0 at (omega (arith, lt)))
        (actions_fine x rest there h.1 (at + action_count a) (omega (arith, lt)))

    cases_fine : (x : Exits) (cs : CasesOf) → AreThere x → AreCases p locals cs → (at end : ℕ)
        → at + cases_count cs < count → end < count → Fine here (cases_items x at cs end)
    cases_fine x source.no_case there h at end lt le = nothing here
    cases_fine x (source.default_case xs) there h at end lt le = actions_fine x xs there h at lt
    cases_fine x (source.case gs xs rest) there h at end lt le =
        let groups = groups_of gs in
        let n = at + tests_count groups in
        let later = cases_count rest in
        let m = n + actions_count xs + over_count later in
        joined here (tests_items at groups n m) _
        (tests_fine groups (are_groups gs) at n m (omega (arith, lt)) (omega (arith, lt)) (omega (arith, lt)))
        (joined here (actions_items x n xs) _ (actions_fine x xs there h.0 n (omega (arith, lt)))
        (joined here (over_items later end) _ (over_fine later end le)
        (cases_fine x rest there h.1 m end (omega (arith, lt)) le)))

pub items_are_within : ItemsAreWithin
items_are_within p r h =
    let n = length (routine_items r) in
    let here : Bounds = record { p = p; locals = r.locals; count = n } in
    let x = exits_to (actions_count r.body) (actions_count r.body) in
    let e : n ≡ actions_count r.body + 1 =
    omega (arith, length-append (actions_items x 0 r.body) (return_true ∷ []), actions_length x r.body 0) in
    (last here (actions_items x 0 r.body) return_true
    (actions_fine here x r.body (omega (arith, e), omega (arith, e)) h.1 0 (omega (arith, e))) tt).all
