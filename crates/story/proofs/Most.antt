-- Words of proofs: the most bytes that items have, in whatever form their branches are written, and the tokens of
-- expressions.
use Rattle.std.proofs.Common.{◌≡◌, ℕ, ◌+◌, ◌*◌, ◌≤◌, List, [], ◌∷◌, ◌++◌, length, Bool, true, false, refl, arith}
use Rattle.std.specs.Prelude.{if◌then◌else◌, ◌+◌, ◌*◌, ℕ, List, [], ◌∷◌, length}
use Rattle.syntax_trees.specs.declared.tree.Step.{Step}
use Rattle.meaning.specs.Accepted.{count_of}
use Rattle.meaning.specs.Resolved as source
use Rattle.meaning.specs.Resolved.{Value, Values, none, more}
use Rattle.meaning.specs.declared.resolved.Variable.{Variable}
use Rattle.code_drafts.specs.Items as items
use Rattle.code_drafts.specs.Items.{Item, Operand, pushed, number, variable, Destination, push, into, aside, nowhere}
use Rattle.code_drafts.specs.Items.{operands_of, if_pushed, move_items, truth_items, after_items, kept_items, is_one_test}
use Rattle.code_drafts.specs.Items.{turned_back, last_back, branch_count, branch_items}
use Rattle.code_items.specs.Statements.{until_items}

-- An operand has 2 bytes, or 1 and an instruction `pull`; a label has 4 bytes at most, a fault inline 4, and the tests
-- of an index or an object 10. A case compares its word with three numbers at most; `read` tests the first bytes of two
-- arrays.
abbrev pub most : Item → ℕ
most (items.move o d) = 5
most (items.apply_prefix op o d) = 6
most (items.operate op a b d) = 16
most (items.operate_aside op o d) = 16
most (items.step op x d) = 5
most (items.entry width a o d) = 24
most (items.entry_aside width a d) = 24
most (items.assign_entry width a o q d) = 33
most (items.assign_entry_aside width a o q d) = 33
most (items.relative r o d) = 23
most (items.property o q d) = 43
most (items.property_size o q d) = 26
most (items.property_word q o i d) = 62
most (items.assign_property q o w d) = 55
most (items.assign_property_word q o i w d) = 71
most (items.give o changes) = 17 + 5 * length changes
most (items.move_object o p) = 66
most (items.remove_object o) = 21
most (items.keep x) = 3
most items.first_equal = 19
most items.also_equal = 25
most items.drop_below = 3
most (items.branch test os when target) = 6 + 4 * length os
most (items.is_in o p when target) = 30
most (items.has o n when target) = 26
most (items.provides o q when target) = 30
most (items.first_object x target) = 3
most (items.next_object x target) = 15
most (items.case test ns when target) = 13
most (items.jump target) = 3
most (items.back target) = 3
most (items.branch_back test os when target) = 6 + 4 * length os
most (items.call r os d) = 9 + 4 * length os
most (items.call_aside r os d) = 9 + 4 * length os
most (items.return o) = 4
most (items.print_character o) = 24
most (items.print_number o) = 4
most (items.print_name o) = 21
most items.new_line = 1
most (items.read_line t q) = 53
most items.quit = 1
most (items.print_text bytes) = 3 * length bytes + 3

abbrev pub most_of : List Item → ℕ
most_of [] = 0
most_of (i ∷ is) = most i + most_of is

-- the tokens of an expression, without commas and the parentheses around an expression
abbrev mutual
  pub tokens : Value → ℕ
  tokens (source.number n) = 1
  tokens (source.read x) = 1
  tokens (source.call r vs) = 3 + list_tokens vs
  tokens (source.prefixed op v) = 1 + tokens v
  tokens (source.step_before op x) = 2
  tokens (source.step_after x op) = 2
  tokens (source.binary op a b) = tokens a + 1 + tokens b
  tokens (source.compare op a b) = tokens a + 1 + tokens b
  tokens (source.equal op a bs) = tokens a + alternative_tokens bs
  tokens (source.assign x v) = 2 + tokens v
  tokens (source.entry width a i) = 2 + tokens i
  tokens (source.assign_entry width a i v) = 2 + tokens i + (1 + tokens v)
  tokens (source.relative r v) = 3 + tokens v
  tokens (source.contained op a b) = tokens a + 1 + tokens b
  tokens (source.has positive v n) = tokens v + 2
  tokens (source.provides v p) = tokens v + 2
  tokens (source.property v p) = tokens v + 2
  tokens (source.property_size v p) = tokens v + 2
  tokens (source.property_word v p i) = tokens v + 3 + tokens i
  tokens (source.assign_property v p w) = tokens v + 2 + (1 + tokens w)
  tokens (source.assign_property_word v p i w) = tokens v + 3 + tokens i + (1 + tokens w)

  pub list_tokens : Values → ℕ
  list_tokens none = 0
  list_tokens (more v vs) = tokens v + list_tokens vs

  -- `==` and the first, and `or` before each other
  pub alternative_tokens : Values → ℕ
  alternative_tokens none = 1
  alternative_tokens (more v vs) = 1 + tokens v + or_tokens vs

  pub or_tokens : Values → ℕ
  or_tokens none = 0
  or_tokens (more v vs) = 1 + tokens v + or_tokens vs

-- Lists of items

pub most_append : (xs ys : List Item) → most_of (xs ++ ys) ≡ most_of xs + most_of ys
most_append [] ys = omega arith
most_append (x ∷ xs) ys = omega (arith, most_append xs ys)

pub if_small : (o : Operand) (xs : List Item) (n : ℕ) → most_of xs + 20 ≤ n → most_of (if_pushed o xs []) + 20 ≤ n
if_small pushed xs n h = h
if_small (number k) xs n h = omega (arith, h)
if_small (variable x) xs n h = omega (arith, h)

pub moved_small : (o : Operand) (d : Destination) → most_of (move_items o d) ≤ 5
moved_small o push = omega arith
moved_small o (into x) = omega arith
moved_small o aside = omega arith
moved_small o nowhere = omega arith

pub after_small : (x : Variable) (op : Step) (d : Destination) → most_of (after_items x op d) ≤ 15
after_small x op push = omega arith
after_small x op (into y) = omega arith
after_small x op aside = omega arith
after_small x op nowhere = omega arith

pub kept_small : (x : Variable) (d : Destination) (xs ys : List Item) (n : ℕ) → most_of xs + 20 ≤ n
    → most_of ys + 20 ≤ n
    → most_of (kept_items x d xs ys) + 12 ≤ n
kept_small x nowhere xs ys n hx hy = omega (arith, hx)
kept_small x push xs ys n hx hy = omega (arith, hy, most_append ys (items.keep x ∷ []))
kept_small x (into y) xs ys n hx hy = omega
    (arith, hy, most_append ys (items.keep x ∷ items.move pushed (into y) ∷ []))
kept_small x aside xs ys n hx hy = omega (arith, hy, most_append ys (items.keep x ∷ items.move pushed aside ∷ []))

-- 0 or 1, beside the branch
pub truth_small : (at count : ℕ) (d : Destination) (f : ℕ → List Item) (n : ℕ) → ((t : ℕ) → most_of (f t) ≤ n)
    → most_of (truth_items at count d f) ≤ n + 13
truth_small at count nowhere f n h = omega (arith, h (at + count))
truth_small at count push f n h = omega (
  arith,
  h (at + count + 2),
  most_append (f (at + count + 2)) (items.move (number 0) push ∷ items.jump (at + count + 3) ∷ items.move
      (number 1) push ∷ []),
)
truth_small at count (into x) f n h =
    omega (
      arith,
      h (at + count + 2),
      most_append (f (at + count + 2)) (items.move (number 0) (into x) ∷ items.jump (at + count + 3) ∷ items.move
          (number 1) (into x) ∷ []),
    )
truth_small at count aside f n h =
    omega (
      arith,
      h (at + count + 2),
      most_append (f (at + count + 2)) (items.move (number 0) aside ∷ items.jump (at + count + 3) ∷ items.move
          (number 1) aside ∷ []),
    )

pub either_small : (b : Bool) (xs ys : List Item) (n : ℕ) → most_of xs ≤ n → most_of ys ≤ n
    → most_of (if b then xs else ys) ≤ n
either_small true xs ys n hx hy = hx
either_small false xs ys n hx hy = hy

pub operands_length : (vs : Values) → length (operands_of vs) ≡ count_of vs
operands_length none = refl
operands_length (more v vs) = omega (arith, operands_length vs)

list_of : (vs : Values) → or_tokens vs ≡ list_tokens vs + count_of vs
list_of none = refl
list_of (more v vs) = omega (arith, list_of vs)

pub alternatives_are : (vs : Values) → list_tokens vs + 1 ≤ alternative_tokens vs
alternatives_are none = omega arith
alternatives_are (more v vs) = omega (arith, list_of vs)

-- Branches that are turned back

turned_most : (to : ℕ) (i : Item) → most (turned_back to i) ≡ most i
turned_most to (items.branch test os when end) = refl
turned_most to i = refl

pub back_most : (to : ℕ) (is : List Item) → most_of (last_back to is) ≡ most_of is
back_most to [] = refl
back_most to (i ∷ []) = omega (arith, turned_most to i)
back_most to (i ∷ j ∷ is) = omega (arith, back_most to (j ∷ is))

-- the test of a `do`
pub until_small : (v : Value) (at to n : ℕ) → ((end : ℕ) → most_of (branch_items at v true end) ≤ n)
    → most_of (until_items at to v) ≤ n + 3
until_small v at to n h = go (is_one_test v)
  where
    k : ℕ
    k = branch_count v true

    go : (b : Bool) → most_of (if b then last_back to (branch_items at v true (at + k))
        else branch_items at v true (at + k + 1) ++ items.back to ∷ []) ≤ n + 3
    go true = omega (arith, back_most to (branch_items at v true (at + k)), h (at + k))
    go false = omega (arith, most_append (branch_items at v true (at + k + 1)) (items.back to ∷ []), h (at + k + 1))
