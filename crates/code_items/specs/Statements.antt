-- The items of statements and of a routine, and how many they are.
use Rattle.std.specs.Prelude.{◌+◌, ◌==◌, ℕ, true, false, if◌then◌else◌, List, [], ◌∷◌, ◌++◌, nat_lt, length, Option}
use Rattle.std.specs.Prelude.{Some, None}
use Rattle.syntax_trees.specs.declared.tree.Relative.{Relative}
use Rattle.syntax_trees.specs.declared.tree.Relative.TheVariants as relatives
use Rattle.meaning.specs.declared.resolved.Variable.{Variable}
use Rattle.meaning.specs.Resolved.{Value, Printed, RangeOf, Action, Actions, stop, next, CasesOf, RoutineOf}
use Rattle.meaning.specs.Resolved as source
use Rattle.code_drafts.specs.Items.{keep, relative, give, move_object, remove_object, print_text, print_character}
use Rattle.code_drafts.specs.Items.{print_number, print_name, new_line, read_line, quit, first_object, next_object}
use Rattle.code_drafts.specs.Items.{case, jump, back, return, Item, Operand, alone, alone_items, branch_count}
use Rattle.code_drafts.specs.Items.{aside, branch_items, branch_true, greater, if_pushed, left_of, less, nowhere, number}
use Rattle.code_drafts.specs.Items.{is_one_test, last_back, operand_count, push, pushed, same, value_count, value_items, variable}

-- one thing that is printed
abbrev pub printed_count : Printed → ℕ
printed_count (source.text bytes) = 1
printed_count (source.character_of v) = operand_count v (alone v) + 1
printed_count (source.number_of v) = operand_count v (alone v) + 1
printed_count (source.name_of v) = operand_count v (alone v) + 1

-- all that a statement prints
abbrev pub prints_count : List Printed → ℕ
prints_count [] = 0
prints_count (i ∷ is) = printed_count i + prints_count is

-- Loops

-- a part of a `for` whose word goes nowhere, if it is there
abbrev pub once_count : Option Value → ℕ
once_count None = 0
once_count (Some v) = value_count v nowhere

abbrev pub once_items : ℕ → Option Value → List Item
once_items at None = []
once_items at (Some v) = value_items at v nowhere

-- the test of a `for`, if it is there: where it does not hold it leads to the end
abbrev pub test_count : Option Value → ℕ
test_count None = 0
test_count (Some v) = branch_count v false

abbrev pub test_items : ℕ → Option Value → ℕ → List Item
test_items at None end = []
test_items at (Some v) end = branch_items at v false end

-- `switch`

-- what one test asks of the word, or two: that it is one of at most three numbers, or in a range
pub data Group : Type 0 where
  numbers : List ℕ → Group
  range : ℕ → ℕ → Group

-- a number before groups: a group of numbers takes it, where it has fewer than three
abbrev pub with_number : ℕ → List Group → List Group
with_number n (numbers ns ∷ groups) =
    if nat_lt (length ns) 3 then numbers (n ∷ ns) ∷ groups else numbers (n ∷ []) ∷ numbers ns ∷ groups
with_number n groups = numbers (n ∷ []) ∷ groups

abbrev pub groups_of : List RangeOf → List Group
groups_of [] = []
groups_of (source.one n ∷ gs) = with_number n (groups_of gs)
groups_of (source.between low high ∷ gs) = range low high ∷ groups_of gs

abbrev pub group_count : Group → ℕ
group_count (numbers ns) = 1
group_count (range low high) = 2

abbrev pub groups_count : List Group → ℕ
groups_count [] = 0
groups_count (g ∷ gs) = group_count g + groups_count gs

-- what one group asks where others follow: to the statements of the case where it holds
abbrev pub group_items : ℕ → Group → ℕ → List Item
group_items at (numbers ns) inside = case same ns true inside ∷ []
group_items at (range low high) inside =
    case less (low ∷ []) true (at + 2) ∷ case greater (high ∷ []) false inside ∷ []

-- what the last one asks: after those statements where it does not hold
abbrev pub last_items : Group → ℕ → List Item
last_items (numbers ns) after = case same ns false after ∷ []
last_items (range low high) after = case less (low ∷ []) true after ∷ case greater (high ∷ []) true after ∷ []

-- the tests of a case; one of none never holds
abbrev pub tests_count : List Group → ℕ
tests_count [] = 1
tests_count (g ∷ gs) = groups_count (g ∷ gs)

abbrev pub tests_items : ℕ → List Group → ℕ → ℕ → List Item
tests_items at [] inside after = jump after ∷ []
tests_items at (g ∷ []) inside after = last_items g after
tests_items at (g ∷ h ∷ gs) inside after =
    group_items at g inside ++ tests_items (at + group_count g) (h ∷ gs) inside after

-- from the end of a case over so many items of the later ones
abbrev pub over_count : ℕ → ℕ
over_count later = if later == 0 then 0 else 1

abbrev pub over_items : ℕ → ℕ → List Item
over_items later end = if later == 0 then [] else jump end ∷ []

-- the test of a `do`, and the way back where that is an item of its own
abbrev pub until_count : Value → ℕ
until_count v = if is_one_test v then branch_count v true else branch_count v true + 1

-- They lead back to the item of this number, where the condition is false. If one test decides it, this does it
-- itself; other conditions lead over a jump.
abbrev pub until_items : ℕ → ℕ → Value → List Item
until_items at first v =
    if is_one_test v then last_back first (branch_items at v true (at + branch_count v true))
    else branch_items at v true (at + branch_count v true + 1) ++ back first ∷ []

abbrev mutual
  -- a statement
  pub action_count : Action → ℕ
  action_count source.empty = 0
  action_count (source.block xs) = actions_count xs
  action_count (source.text_alone bytes) = 3
  action_count (source.print is) = prints_count is
  action_count (source.print_return is) = prints_count is + 2
  action_count source.new_line = 1
  action_count (source.if_then v a) = branch_count v false + action_count a
  action_count (source.if_else v a b) = branch_count v false + action_count a + 1 + action_count b
  action_count (source.while_do v a) = branch_count v false + action_count a + 1
  action_count (source.do_until a v) = action_count a + until_count v
  action_count (source.for_loop x y z a) = once_count x + test_count y + action_count a + once_count z + 1
  action_count (source.switch_on v cs) = value_count v aside + cases_count cs
  action_count source.break_out = 1
  action_count (source.read_line t p) = 1
  action_count (source.give_to v changes) = operand_count v (alone v) + 1
  action_count (source.move_to v w) = operand_count v (left_of v w) + operand_count w (alone w) + 1
  action_count (source.remove_from v) = operand_count v (alone v) + 1
  action_count (source.each_object x a) = 1 + action_count a + 2
  action_count (source.each_where x v a) = 1 + (branch_count v false + action_count a) + 2
  action_count (source.each_in x v a) = operand_count v (alone v) + 3 + action_count a + 4
  action_count source.continue_on = 1
  action_count (source.return_value v) = operand_count v (alone v) + 1
  action_count source.quit = 1
  action_count (source.effect v) = value_count v nowhere

  -- statements, one after another
  pub actions_count : Actions → ℕ
  actions_count stop = 0
  actions_count (next a rest) = action_count a + actions_count rest

  -- the cases of a `switch`
  pub cases_count : CasesOf → ℕ
  cases_count source.no_case = 0
  cases_count (source.default_case xs) = actions_count xs
  cases_count (source.case gs xs rest) =
      tests_count (groups_of gs) + actions_count xs + over_count (cases_count rest) + cases_count rest

-- one thing that is printed
abbrev pub printed_items : ℕ → Printed → List Item
printed_items at (source.text bytes) = print_text bytes ∷ []
printed_items at (source.character_of v) = alone_items at v ++ print_character (alone v) ∷ []
printed_items at (source.number_of v) = alone_items at v ++ print_number (alone v) ∷ []
printed_items at (source.name_of v) = alone_items at v ++ print_name (alone v) ∷ []

-- all that a statement prints, from left to right
abbrev pub prints_items : ℕ → List Printed → List Item
prints_items at [] = []
prints_items at (i ∷ is) = printed_items at i ++ prints_items (at + printed_count i) is

-- `rtrue`
abbrev pub return_true : Item
return_true = return (number 1)

-- the numbers of the items to which a statement that breaks leads, and one that continues
pub record Exits : Type 0 where
  pub breaks : ℕ
  pub continues : ℕ

-- for the body of a loop, of which the part after the body and the end have these numbers
abbrev pub exits_to : ℕ → ℕ → Exits
exits_to after end = record { breaks = end; continues = after }

-- After what is done before the first round: the test, the body, what is done after each round, and back to the
-- test. They have so many items.
abbrev pub for_items : ℕ → ℕ → ℕ → ℕ → (ℕ → List Item) → (Exits → ℕ → List Item) → (ℕ → List Item) → List Item
for_items at tested body done test run after =
    test (at + tested + body + done + 1)
    ++ (run (exits_to (at + tested + body) (at + tested + body + done + 1)) (at + tested)
    ++ (after (at + tested + body) ++ back at ∷ []))

-- A case: its tests, its statements, and the way over the later cases. Statements and later cases have so many items.
abbrev pub case_items : ℕ → List Group → ℕ → ℕ → ℕ → (ℕ → List Item) → (ℕ → List Item) → List Item
case_items at groups body later end run rest =
    tests_items at groups (at + tests_count groups) (at + tests_count groups + body + over_count later)
    ++ (run (at + tests_count groups)
    ++ (over_items later end ++ rest (at + tests_count groups + body + over_count later)))

-- `objectloop` over all objects: object 1, the body, the object after it, and back to the body, which has so many items
abbrev pub each_items : ℕ → Variable → ℕ → (Exits → ℕ → List Item) → List Item
each_items at x body run =
    first_object x (at + 1 + body + 2)
    ∷ run (exits_to (at + 1 + body) (at + 1 + body + 2)) (at + 1)
    ++ next_object x (at + 1 + body + 2) ∷ back (at + 1) ∷ []

-- a variable gets a relative of an object, or forward, where there is none
abbrev pub relative_items : Relative → Operand → Variable → ℕ → List Item
relative_items r o x end = relative r o push ∷ keep x ∷ branch_true pushed false end ∷ []

-- `objectloop` over children, from the first one on: the body, the sibling of the object that the variable then has,
-- and back to the body, which has so many items
abbrev pub children_items : ℕ → Variable → Operand → ℕ → (Exits → ℕ → List Item) → List Item
children_items at x o body run =
    relative_items relatives.Child o x (at + 3 + body + 4)
    ++ (run (exits_to (at + 3 + body) (at + 3 + body + 4)) (at + 3)
    ++ (relative_items relatives.Sibling (variable x) x (at + 3 + body + 4) ++ back (at + 3) ∷ []))

abbrev mutual
  -- a statement
  pub action_items : Exits → ℕ → Action → List Item
  action_items x at source.empty = []
  action_items x at (source.block xs) = actions_items x at xs
  action_items x at (source.text_alone bytes) = print_text bytes ∷ new_line ∷ return_true ∷ []
  action_items x at (source.print is) = prints_items at is
  action_items x at (source.print_return is) = prints_items at is ++ new_line ∷ return_true ∷ []
  action_items x at source.new_line = new_line ∷ []
  action_items x at (source.if_then v a) =
      branch_items at v false (at + branch_count v false + action_count a)
      ++ action_items x (at + branch_count v false) a
  action_items x at (source.if_else v a b) =
      branch_items at v false (at + branch_count v false + action_count a + 1)
      ++ (action_items x (at + branch_count v false) a
      ++ jump (at + branch_count v false + action_count a + 1 + action_count b)
      ∷ action_items x (at + branch_count v false + action_count a + 1) b)
  action_items x at (source.while_do v a) =
      branch_items at v false (at + branch_count v false + action_count a + 1)
      ++ (action_items
      (exits_to (at + branch_count v false + action_count a) (at + branch_count v false + action_count a + 1))
      (at + branch_count v false) a ++ back at ∷ [])
  action_items x at (source.do_until a v) =
      action_items (exits_to (at + action_count a) (at + action_count a + until_count v)) at a
      ++ until_items (at + action_count a) at v
  action_items x at (source.for_loop before test after a) =
      once_items at before
      ++ for_items (at + once_count before) (test_count test) (action_count a) (once_count after)
      (λ end. test_items (at + once_count before) test end)
      (λ inside place. action_items inside place a)
      (λ place. once_items place after)
  action_items x at (source.switch_on v cs) =
      value_items at v aside
      ++ cases_items (record x { breaks = at + value_count v aside + cases_count cs }) (at + value_count v aside) cs
      (at + value_count v aside + cases_count cs)
  action_items x at source.break_out = jump x.breaks ∷ []
  action_items x at (source.read_line t p) = read_line t p ∷ []
  action_items x at source.continue_on = jump x.continues ∷ []
  action_items x at (source.give_to v changes) = alone_items at v ++ give (alone v) changes ∷ []
  action_items x at (source.move_to v w) =
      if_pushed (left_of v w) (value_items at v push) []
      ++ (if_pushed (alone w) (value_items (at + operand_count v (left_of v w)) w push) []
      ++ move_object (left_of v w) (alone w) ∷ [])
  action_items x at (source.remove_from v) = alone_items at v ++ remove_object (alone v) ∷ []
  action_items x at (source.each_object y a) =
      each_items at y (action_count a) (λ inside place. action_items inside place a)
  action_items x at (source.each_where y v a) =
      each_items at y (branch_count v false + action_count a) (λ inside place.
      branch_items place v false (place + branch_count v false + action_count a)
      ++ action_items inside (place + branch_count v false) a)
  action_items x at (source.each_in y v a) =
      alone_items at v
      ++ children_items (at + operand_count v (alone v)) y (alone v) (action_count a)
      (λ inside place. action_items inside place a)
  action_items x at (source.return_value v) = alone_items at v ++ return (alone v) ∷ []
  action_items x at source.quit = quit ∷ []
  action_items x at (source.effect v) = value_items at v nowhere

  -- statements, one after another
  pub actions_items : Exits → ℕ → Actions → List Item
  actions_items x at stop = []
  actions_items x at (next a rest) = action_items x at a ++ actions_items x (at + action_count a) rest

  -- the cases of a `switch` that ends there: the tests of each lead after its statements where they do not hold
  pub cases_items : Exits → ℕ → CasesOf → ℕ → List Item
  cases_items x at source.no_case end = []
  cases_items x at (source.default_case xs) end = actions_items x at xs
  cases_items x at (source.case gs xs rest) end =
      case_items at (groups_of gs) (actions_count xs) (cases_count rest) end (λ place. actions_items x place xs)
      (λ place. cases_items x place rest end)

-- A routine that runs off its end returns true. No statement of an accepted program breaks or continues outside of a
-- loop; one would lead there too.
abbrev pub routine_items : RoutineOf → List Item
routine_items r =
    actions_items (exits_to (actions_count r.body) (actions_count r.body)) 0 r.body ++ return_true ∷ []
