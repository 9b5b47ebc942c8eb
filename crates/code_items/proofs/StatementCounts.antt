-- How many items the forms of statements have.
use Rattle.std.proofs.Common.{◌≡◌, ℕ, ◌+◌, List, [], ◌∷◌, ◌++◌, length, Bool, true, false, Option, Some, None, refl}
use Rattle.std.proofs.Common.{◌∙◌, arith, length-append}
use Rattle.std.specs.Prelude.{◌==◌, if◌then◌else◌}
use Rattle.syntax_trees.specs.declared.tree.Relative.TheVariants as relatives
use Rattle.meaning.specs.Resolved.{Value, Printed, Action, Actions, CasesOf, stop, next}
use Rattle.meaning.specs.Resolved as source
use Rattle.meaning.specs.declared.resolved.Variable.{Variable}
use Rattle.code_drafts.specs.Items.{Operand, variable, push, aside, left_of, if_pushed, value_count, value_items}
use Rattle.code_drafts.specs.Items.{nowhere, alone, branch_count, branch_items, operand_count, alone_items, is_one_test, last_back}
use Rattle.code_drafts.specs.Items as items
use Rattle.code_drafts.proofs.CountedForms.{joined, if_length}
use Rattle.code_drafts.proofs.Counts.{value_length, branch_length, alone_length}
use Rattle.code_drafts.proofs.WrittenItems as written
use Rattle.code_items.specs.Statements.{each_items, children_items, relative_items, printed_count, prints_count}
use Rattle.code_items.specs.Statements.{action_count, actions_count, cases_count, once_count, test_count, tests_count}
use Rattle.code_items.specs.Statements.{group_count, groups_of, over_count, printed_items, prints_items, once_items}
use Rattle.code_items.specs.Statements.{until_count, until_items}
use Rattle.code_items.specs.Statements.{test_items, Group, group_items, last_items, tests_items, over_items, Exits}
use Rattle.code_items.specs.Statements.{exits_to, action_items, actions_items, cases_items, for_items, case_items}
use Rattle.code_items.specs.Statements as statements

pub printed_length : (i : Printed) (at : ℕ) → length (printed_items at i) ≡ printed_count i
printed_length (source.text bytes) at = refl
printed_length (source.character_of v) at = joined (alone_items at v) _ _ 1 (alone_length v at) refl
printed_length (source.number_of v) at = joined (alone_items at v) _ _ 1 (alone_length v at) refl
printed_length (source.name_of v) at = joined (alone_items at v) _ _ 1 (alone_length v at) refl

pub prints_length : (is : List Printed) (at : ℕ) → length (prints_items at is) ≡ prints_count is
prints_length [] at = refl
prints_length (i ∷ is) at = joined (printed_items at i) _ _ _ (printed_length i at)
    (prints_length is (at + printed_count i))

-- The parts of a `for`

pub once_length : (part : Option Value) (at : ℕ) → length (once_items at part) ≡ once_count part
once_length None at = refl
once_length (Some v) at = value_length v nowhere at

pub test_length : (test : Option Value) (at end : ℕ) → length (test_items at test end) ≡ test_count test
test_length None at end = refl
test_length (Some v) at end = branch_length v false at end

-- the test of a `do`
pub until_length : (v : Value) (at first : ℕ) → length (until_items at first v) ≡ until_count v
until_length v at first = go (is_one_test v)
  where
    k : ℕ
    k = branch_count v true

    go : (b : Bool) → length (if b then last_back first (branch_items at v true (at + k))
        else branch_items at v true (at + k + 1) ++ items.back first ∷ []) ≡ (if b then k else k + 1)
    go true = written.last_length first (branch_items at v true (at + k)) ∙ branch_length v true at (at + k)
    go false = joined (branch_items at v true (at + k + 1)) _ _ 1 (branch_length v true at (at + k + 1)) refl

pub for_length : (at tested body done : ℕ) (test : ℕ → List items.Item) (run : Exits → ℕ → List items.Item)
    (behind : ℕ → List items.Item)
    → ((end : ℕ) → length (test end) ≡ tested) → ((x : Exits) (place : ℕ) → length (run x place) ≡ body)
    → ((place : ℕ) → length (behind place) ≡ done)
    → length (for_items at tested body done test run behind) ≡ tested + body + done + 1
for_length at tested body done test run behind et eb ed =
    let end = at + tested + body + done + 1 in
    let r = run (exits_to (at + tested + body) end) (at + tested) in
    let b = behind (at + tested + body) in
    omega (
      arith,
      et end,
      eb (exits_to (at + tested + body) end) (at + tested),
      ed (at + tested + body),
      length-append (test end) (r ++ (b ++ items.back at ∷ [])),
      length-append r (b ++ items.back at ∷ []),
      length-append b (items.back at ∷ []),
    )

-- The tests of a case, and the way over the later ones

pub group_length : (g : Group) (at inside : ℕ) → length (group_items at g inside) ≡ group_count g
group_length (statements.numbers ns) at inside = refl
group_length (statements.range low high) at inside = refl

pub last_length : (g : Group) (behind : ℕ) → length (last_items g behind) ≡ group_count g
last_length (statements.numbers ns) behind = refl
last_length (statements.range low high) behind = refl

pub tests_length : (gs : List Group) (at inside behind : ℕ) → length (tests_items at gs inside behind) ≡ tests_count gs
tests_length [] at inside behind = refl
tests_length (g ∷ []) at inside behind = let e = last_length g behind in omega (arith, e)
tests_length (g ∷ h ∷ gs) at inside behind =
    joined (group_items at g inside) _ _ _ (group_length g at inside)
    (tests_length (h ∷ gs) (at + group_count g) inside behind)

pub over_length : (later end : ℕ) → length (over_items later end) ≡ over_count later
over_length later end = go (later == 0)
  where
    go : (b : Bool) → length (if b then [] else items.jump end ∷ []) ≡ (if b then 0 else 1)
    go true = refl
    go false = refl

pub case_length : (at : ℕ) (gs : List Group) (body later end : ℕ) (run rest : ℕ → List items.Item)
    → ((place : ℕ) → length (run place) ≡ body) → ((place : ℕ) → length (rest place) ≡ later)
    → length (case_items at gs body later end run rest) ≡ tests_count gs + body + over_count later + later
case_length at gs body later end run rest eb el =
    let inside = at + tests_count gs in
    let behind = at + tests_count gs + body + over_count later in
    let t = tests_items at gs inside behind in
    let o = over_items later end in
    omega (
      arith,
      tests_length gs at inside behind,
      eb inside,
      over_length later end,
      el behind,
      length-append t (run inside ++ (o ++ rest behind)),
      length-append (run inside) (o ++ rest behind),
      length-append o (rest behind),
    )

each_length : (at : ℕ) (y : Variable) (body : ℕ) (run : Exits → ℕ → List items.Item)
    → ((inside : Exits) (place : ℕ) → length (run inside place) ≡ body)
    → length (each_items at y body run) ≡ 1 + body + 2
each_length at y body run e =
    let inside = exits_to (at + 1 + body) (at + 1 + body + 2) in
    omega (
      arith,
      e inside (at + 1),
      length-append (run inside (at + 1)) (items.next_object y (at + 1 + body + 2) ∷ items.back (at + 1) ∷ []),
    )

children_length : (at : ℕ) (y : Variable) (o : Operand) (body : ℕ) (run : Exits → ℕ → List items.Item)
    → ((inside : Exits) (place : ℕ) → length (run inside place) ≡ body)
    → length (children_items at y o body run) ≡ 3 + body + 4
children_length at y o body run e =
    let end = at + 3 + body + 4 in
    let inside = exits_to (at + 3 + body) end in
    let rest = relative_items relatives.Sibling (variable y) y end ++ items.back (at + 3) ∷ [] in
    omega (
      arith,
      e inside (at + 3),
      length-append (relative_items relatives.Child o y end) (run inside (at + 3) ++ rest),
      length-append (run inside (at + 3)) rest,
      length-append (relative_items relatives.Sibling (variable y) y end) (items.back (at + 3) ∷ []),
    )

mutual
  pub action_length : (x : Exits) (a : Action) (at : ℕ) → length (action_items x at a) ≡ action_count a
  action_length x source.empty at = refl
  action_length x (source.block xs) at = actions_length x xs at
  action_length x (source.text_alone bytes) at = refl
  action_length x (source.print is) at = prints_length is at
  action_length x (source.print_return is) at = joined (prints_items at is) _ _ 2 (prints_length is at) refl
  action_length x source.new_line at = refl
  action_length x (source.if_then v a) at =
      let n = at + branch_count v false in
      joined (branch_items at v false (n + action_count a)) _ _ _ (branch_length v false at (n + action_count a))
      (action_length x a n)
  action_length x (source.if_else v a b) at =
      let n = at + branch_count v false in
      let e = n + action_count a + 1 in
      omega (
        arith,
        branch_length v false at e,
        action_length x a n,
        action_length x b e,
        length-append
            (branch_items at v false e) (action_items x n a ++ items.jump (e + action_count b) ∷ action_items x e b),
        length-append (action_items x n a) (items.jump (e + action_count b) ∷ action_items x e b),
      )
  action_length x (source.while_do v a) at =
      let n = at + branch_count v false in
      let e = n + action_count a + 1 in
      let inside = exits_to (n + action_count a) e in
      omega (
        arith,
        branch_length v false at e,
        action_length inside a n,
        length-append (branch_items at v false e)
            (action_items inside n a ++ items.back at ∷ []),
        length-append (action_items inside n a) (items.back at ∷ []),
      )
  action_length x (source.do_until a v) at =
      let behind = at + action_count a in
      let inside = exits_to behind (behind + until_count v) in
      joined (action_items inside at a) _ _ _ (action_length inside a at) (until_length v behind at)
  action_length x (source.for_loop before test behind a) at =
      let place = at + once_count before in
      let whole = for_items place (test_count test) (action_count a) (once_count behind)
      (λ end. test_items place test end) (λ inside p. action_items inside p a) (λ p. once_items p behind) in
      let f = for_length place (test_count test) (action_count a) (once_count behind)
      (λ end. test_items place test end) (λ inside p. action_items inside p a) (λ p. once_items p behind)
      (λ end. test_length test place end) (λ inside p. action_length inside a p) (λ p. once_length behind p) in
      omega (arith, f, once_length before at, length-append (once_items at before) whole)
  action_length x (source.switch_on v cs) at =
      let place = at + value_count v aside in
      let end = place + cases_count cs in
      let inside : Exits = record x { breaks = end } in
      joined (value_items at v aside) (cases_items inside place cs end) _ _ (value_length v aside at)
      (cases_length inside cs place end)
  action_length x source.break_out at = refl
  action_length x source.continue_on at = refl
  action_length x (source.read_line t p) at = refl
  action_length x (source.give_to v changes) at = joined (alone_items at v) _ _ 1 (alone_length v at) refl
  action_length x (source.move_to v w) at =
      let place = at + operand_count v (left_of v w) in
      let last = items.move_object (left_of v w) (alone w) ∷ [] in
      omega (
        arith,
        if_length (left_of v w) _ _ (value_length v push at),
        if_length (alone w) _ _ (value_length w push place),
        length-append (if_pushed (left_of v w) (value_items at v push) [])
            (if_pushed (alone w) (value_items place w push) [] ++ last),
        length-append (if_pushed (alone w) (value_items place w push) []) last,
      )
  action_length x (source.remove_from v) at = joined (alone_items at v) _ _ 1 (alone_length v at) refl
  action_length x (source.each_object y a) at =
      each_length at y (action_count a) (λ inside place. action_items inside place a)
      (λ inside place. action_length inside a place)
  action_length x (source.each_where y v a) at =
      each_length at y (branch_count v false + action_count a) (λ inside place.
      branch_items place v false (place + branch_count v false + action_count a)
      ++ action_items inside (place + branch_count v false) a)
      (λ inside place. joined _ _ _ _ (branch_length v false place (place + branch_count v false + action_count a))
      (action_length inside a (place + branch_count v false)))
  action_length x (source.each_in y v a) at =
      let place = at + operand_count v (alone v) in
      let kids = children_length place y (alone v) (action_count a) (λ inside p. action_items inside p a)
      (λ inside p. action_length inside a p) in
      omega (
        arith,
        kids,
        alone_length v at,
        length-append (alone_items at v)
            (children_items place y (alone v) (action_count a) (λ inside p. action_items inside p a)),
      )
  action_length x (source.return_value v) at = joined (alone_items at v) _ _ 1 (alone_length v at) refl
  action_length x source.quit at = refl
  action_length x (source.effect v) at = value_length v nowhere at

  pub actions_length : (x : Exits) (xs : Actions) (at : ℕ) → length (actions_items x at xs) ≡ actions_count xs
  actions_length x stop at = refl
  actions_length x (next a rest) at = joined (action_items x at a) _ _ _ (action_length x a at)
      (actions_length x rest (at + action_count a))

  pub cases_length : (x : Exits) (cs : CasesOf) (at end : ℕ) → length (cases_items x at cs end) ≡ cases_count cs
  cases_length x source.no_case at end = refl
  cases_length x (source.default_case xs) at end = actions_length x xs at
  cases_length x (source.case gs xs rest) at end =
      case_length at (groups_of gs) (actions_count xs) (cases_count rest) end (λ p. actions_items x p xs)
      (λ p. cases_items x p rest end) (λ p. actions_length x xs p) (λ p. cases_length x rest p end)
