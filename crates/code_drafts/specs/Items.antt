-- Items: one for each act of the language, with its operands, where its word goes, its tests and its fault inside. The
-- items of expressions, and how many they are.
use Rattle.std.specs.Prelude.{◌&&◌, ◌||◌, ◌+◌, ◌==◌, not, ℕ, nat_le, Bool, true, false, if◌then◌else◌, List, [], ◌∷◌, ◌++◌}
use Rattle.syntax_trees.specs.declared.tree.Binary.{Binary}
use Rattle.syntax_trees.specs.declared.tree.Binary.TheVariants as binaries
use Rattle.syntax_trees.specs.declared.tree.Comparison.{Comparison}
use Rattle.syntax_trees.specs.declared.tree.Comparison.TheVariants as comparisons
use Rattle.syntax_trees.specs.declared.tree.Containment.{Containment}
use Rattle.syntax_trees.specs.declared.tree.Containment.TheVariants as containments
use Rattle.syntax_trees.specs.declared.tree.Equality.{Equality}
use Rattle.syntax_trees.specs.declared.tree.Equality.TheVariants as equalities
use Rattle.syntax_trees.specs.declared.tree.Prefix.{Prefix}
use Rattle.syntax_trees.specs.declared.tree.Prefix.TheVariants as prefixes
use Rattle.syntax_trees.specs.declared.tree.Relative.{Relative}
use Rattle.syntax_trees.specs.declared.tree.Step.{Step}
use Rattle.syntax_trees.specs.declared.tree.Width.{Width}
use Rattle.meaning.specs.declared.resolved.Variable.{Variable}
use Rattle.meaning.specs.declared.resolved.Variable.TheVariants as variables
use Rattle.meaning.specs.Resolved.{Value, Values, none, more}
use Rattle.meaning.specs.Resolved as source
use Rattle.meaning.specs.Meaning.{is_true, with_prefix}
use Rattle.meaning.specs.Accepted.{count_of}

-- a word that an item takes: from the top of the stack, or one that stands in the instruction. A variable is read
-- when the item is done.
pub data Operand : Type 0 where
  pushed : Operand
  number : ℕ → Operand
  variable : Variable → Operand

-- where a word goes
pub data Destination : Type 0 where
  push : Destination
  into : Variable → Destination
  -- it is put aside for the next item
  aside : Destination
  nowhere : Destination

-- what a branch asks of its operands: that the first is 0, is less or greater than the second, or equals one of the
-- others
pub data Test : Type 0 where
  is_zero : Test
  less : Test
  greater : Test
  same : Test

-- The items of a routine are numbered from 0, and jumps name the item that they lead to. Of the operands that are
-- pushed the last is on top.
pub data Item : Type 0 where
  move : Operand → Destination → Item
  -- none of `~~`
  apply_prefix : Prefix → Operand → Destination → Item
  -- none of `&&` and `||`
  operate : Binary → Operand → Operand → Destination → Item
  -- the same, where the right operand was put aside: the left one
  operate_aside : Binary → Operand → Destination → Item
  -- a variable is stepped, and its new word goes on
  step : Step → Variable → Destination → Item
  -- an entry of the array of this number, at an index
  entry : Width → ℕ → Operand → Destination → Item
  -- the same, where the index was put aside
  entry_aside : Width → ℕ → Destination → Item
  -- a word is assigned to the entry at an index, and goes on: index and word
  assign_entry : Width → ℕ → Operand → Operand → Destination → Item
  -- the same, where the last of both that is pushed was put aside: it counts as the top of the stack
  assign_entry_aside : Width → ℕ → Operand → Operand → Destination → Item
  -- the topmost word goes to a variable, and stays
  keep : Variable → Item
  -- of an object: its parent, its first child or its sibling
  relative : Relative → Operand → Destination → Item
  -- the word of the property of this number, and how many bytes it has
  property : Operand → ℕ → Destination → Item
  property_size : Operand → ℕ → Destination → Item
  -- a word of the property, at an index: object and index
  property_word : ℕ → Operand → Operand → Destination → Item
  -- a word is assigned to the property, and goes on: object and word; and to a word of it: object, index and word
  assign_property : ℕ → Operand → Operand → Destination → Item
  assign_property_word : ℕ → Operand → Operand → Operand → Destination → Item
  -- an object gets attributes, or is without them, in order
  give : Operand → List (Bool × ℕ) → Item
  -- the first object goes into the second
  move_object : Operand → Operand → Item
  remove_object : Operand → Item
  -- `==` of more than three: from left and right to left and flag; from left, flag and right to left and flag; and to
  -- the flag alone
  first_equal : Item
  also_equal : Item
  drop_below : Item
  -- what stands between the quotes
  print_text : List ℕ → Item
  print_character : Operand → Item
  print_number : Operand → Item
  -- the short name of an object
  print_name : Operand → Item
  new_line : Item
  -- the next line goes to the arrays of these numbers
  read_line : ℕ → ℕ → Item
  quit : Item
  -- forward, where the test holds, or where it does not
  branch : Test → List Operand → Bool → ℕ → Item
  -- forward, where the parent of an object is another word, or where it is not
  is_in : Operand → Operand → Bool → ℕ → Item
  -- forward, where an object has the attribute of this number, or provides the property, or where it does not
  has : Operand → ℕ → Bool → ℕ → Item
  provides : Operand → ℕ → Bool → ℕ → Item
  -- object 1 goes to a variable, or forward, where there is no object
  first_object : Variable → ℕ → Item
  -- a variable gets the object after the one that it has, or forward, where it has none or the last
  next_object : Variable → ℕ → Item
  -- forward, where the test holds of the word that was put aside and these numbers, or where it does not; the word
  -- stays there for the next item
  case : Test → List ℕ → Bool → ℕ → Item
  -- forward; a word that was put aside stays there
  jump : ℕ → Item
  -- back, which costs a unit
  back : ℕ → Item
  -- back, which costs a unit, where the test holds, or where it does not
  branch_back : Test → List Operand → Bool → ℕ → Item
  call : ℕ → List Operand → Destination → Item
  -- the same, where the last operand that is pushed was put aside: it counts as the top of the stack
  call_aside : ℕ → List Operand → Destination → Item
  return : Operand → Item

-- Operands in place

-- two names of one variable
abbrev pub is_same : Variable → Variable → Bool
is_same (variables.Local i) (variables.Local j) = i == j
is_same (variables.Local i) (variables.Global j) = false
is_same (variables.Global i) (variables.Local j) = false
is_same (variables.Global i) (variables.Global j) = i == j

-- a variable that every routine may change
abbrev pub is_global : Variable → Bool
is_global (variables.Local i) = false
is_global (variables.Global i) = true

-- evaluation may change the variable: it steps or assigns it, or calls a routine, which may change any global
abbrev mutual
  pub changes : Variable → Value → Bool
  changes x (source.number n) = false
  changes x (source.read y) = false
  changes x (source.call r vs) = is_global x || change x vs
  changes x (source.prefixed op v) = changes x v
  changes x (source.step_before op y) = is_same x y
  changes x (source.step_after y op) = is_same x y
  changes x (source.binary op a b) = changes x a || changes x b
  changes x (source.compare op a b) = changes x a || changes x b
  changes x (source.equal op a bs) = changes x a || change x bs
  changes x (source.assign y v) = is_same x y || changes x v
  changes x (source.entry width a i) = changes x i
  changes x (source.assign_entry width a i v) = changes x i || changes x v
  changes x (source.relative r v) = changes x v
  changes x (source.contained op a b) = changes x a || changes x b
  changes x (source.has positive v a) = changes x v
  changes x (source.provides v p) = changes x v
  changes x (source.property v p) = changes x v
  changes x (source.property_size v p) = changes x v
  changes x (source.property_word v p i) = changes x v || changes x i
  changes x (source.assign_property v p w) = changes x v || changes x w
  changes x (source.assign_property_word v p i w) = changes x v || (changes x i || changes x w)

  -- evaluation of one of several may
  pub change : Variable → Values → Bool
  change x none = false
  change x (more v vs) = changes x v || change x vs

-- the operand for an operator before an operand: before a number it makes another number
abbrev pub prefix_operand : Prefix → Operand → Operand
prefix_operand op (number n) = number (with_prefix op n)
prefix_operand op o = pushed

-- the operand for a value that is evaluated before others: a number, also one with operators before it, and a variable
-- stand in place, the variable if those others do not change it
abbrev pub operand_of : Value → Values → Operand
operand_of (source.number n) later = number n
operand_of (source.read x) later = if change x later then pushed else variable x
operand_of (source.prefixed op v) later = prefix_operand op (operand_of v none)
operand_of v later = pushed

-- the operands for values that are evaluated one after another
abbrev pub operands_of : Values → List Operand
operands_of none = []
operands_of (more v vs) = operand_of v vs ∷ operands_of vs

-- the operand for a value after which none is evaluated
abbrev pub alone : Value → Operand
alone v = operand_of v none

-- the operand for the left one of two values
abbrev pub left_of : Value → Value → Operand
left_of a b = operand_of a (more b none)

-- the operand for the first one of three values
abbrev pub first_of : Value → Value → Value → Operand
first_of a b c = operand_of a (more b (more c none))

-- the first where an operand is pushed, the second where it stands in place
abbrev pub if_pushed : {A : Type 0} → Operand → A → A → A
if_pushed pushed a b = a
if_pushed (number n) a b = b
if_pushed (variable x) a b = b

-- where the right operand of an operator goes that does not stand in place: aside, where it would have to be taken from
-- the stack first, since the left one stands below it there, or since it is tested as a divisor
abbrev pub right_place : Binary → Operand → Destination
right_place binaries.Subtract pushed = aside
right_place binaries.Divide left = aside
right_place binaries.Remainder left = aside
right_place op left = push

-- an operation, where a right operand that does not stand in place went there
abbrev pub operation_item : Destination → Binary → Operand → Operand → Destination → Item
operation_item aside op left pushed d = operate_aside op left d
operation_item place op left right d = operate op left right d

-- one of some operands is pushed
abbrev pub is_any_pushed : List Operand → Bool
is_any_pushed [] = false
is_any_pushed (o ∷ os) = if_pushed o true (is_any_pushed os)

-- more than one is
abbrev pub are_more_pushed : List Operand → Bool
are_more_pushed [] = false
are_more_pushed (o ∷ os) = if_pushed o (is_any_pushed os) (are_more_pushed os)

-- where an argument goes that does not stand in place, where there are several of those, and where one of those stands
-- after it: the last of several goes aside
abbrev pub argument_place : Bool → Bool → Destination
argument_place several true = push
argument_place true false = aside
argument_place false false = push

-- a call, where there are several of those
abbrev pub call_item : Bool → ℕ → List Operand → Destination → Item
call_item true r os d = call_aside r os d
call_item false r os d = call r os d

-- an entry is read, where an index that does not stand in place went aside
abbrev pub entry_item : Width → ℕ → Operand → Destination → Item
entry_item width a pushed d = entry_aside width a d
entry_item width a index d = entry width a index d

-- where the index of an entry goes that does not stand in place, by the word that is assigned: aside, if that stands in
-- place, since the last of both goes there
abbrev pub index_place : Operand → Destination
index_place word = argument_place true (if_pushed word true false)

-- an entry is assigned, where the last of index and word that does not stand in place went aside
abbrev pub assign_entry_item : Width → ℕ → Operand → Operand → Destination → Item
assign_entry_item width a index word d =
    if is_any_pushed (index ∷ word ∷ []) then assign_entry_aside width a index word d
    else assign_entry width a index word d

-- Branches

-- the test that decides a comparison
abbrev pub comparison_test : Comparison → Test
comparison_test comparisons.Less = less
comparison_test comparisons.Greater = greater
comparison_test comparisons.LessOrEqual = greater
comparison_test comparisons.GreaterOrEqual = less

-- whether that test is to hold, for a comparison that is to hold, or is not
abbrev pub comparison_when : Comparison → Bool → Bool
comparison_when comparisons.Less when = when
comparison_when comparisons.Greater when = when
comparison_when comparisons.LessOrEqual when = not when
comparison_when comparisons.GreaterOrEqual when = not when

-- whether one right side is to equal the left side, for `==` or `~=` that is to hold, or is not
abbrev pub equality_when : Equality → Bool → Bool
equality_when equalities.Equal when = when
equality_when equalities.NotEqual when = not when

-- whether an object is to stand in another, for `in` or `notin` that is to hold, or is not
abbrev pub containment_when : Containment → Bool → Bool
containment_when containments.In when = when
containment_when containments.NotIn when = not when

-- a branch where a word is true, or where it is not
abbrev pub branch_true : Operand → Bool → ℕ → Item
branch_true o when target = branch is_zero (o ∷ []) (not when) target

-- a branch out of a loop as one back to the loop's first item, where the test is the other way round
abbrev pub turned_back : ℕ → Item → Item
turned_back first (branch test os when end) = branch_back test os (not when) first
turned_back first i = i

-- some items, of which the last is turned so
abbrev pub last_back : ℕ → List Item → List Item
last_back first [] = []
last_back first (i ∷ []) = turned_back first i ∷ []
last_back first (i ∷ j ∷ is) = i ∷ last_back first (j ∷ is)

-- whether a condition that is known leads to the target
abbrev pub agrees : Bool → Bool → Bool
agrees true when = when
agrees false when = not when

-- one instruction compares with at most three
abbrev pub is_few : Values → Bool
is_few vs = nat_le (count_of vs) 3

-- a condition is decided by one test of words, its last item
abbrev pub is_one_test : Value → Bool
is_one_test (source.number n) = false
is_one_test (source.prefixed prefixes.Not v) = is_one_test v
is_one_test (source.binary binaries.AndAlso a b) = false
is_one_test (source.binary binaries.OrElse a b) = false
is_one_test (source.equal op a bs) = is_few bs
is_one_test (source.contained op a b) = false
is_one_test (source.has positive v a) = false
is_one_test (source.provides v p) = false
is_one_test v = true

-- what stands in place whatever is evaluated later, since that stands in place too
abbrev pub is_in_place : Value → Bool
is_in_place v = if_pushed (alone v) false true

abbrev pub all_in_place : Values → Bool
all_in_place none = true
all_in_place (more v vs) = is_in_place v && all_in_place vs

-- the sides of `==` are compared by instructions alone: by one, or by several where all stand in place
abbrev pub is_direct : Value → Values → Bool
is_direct a bs = is_few bs || (is_in_place a && all_in_place bs)

-- by how many
abbrev pub same_count : List Operand → ℕ
same_count (x ∷ y ∷ z ∷ u ∷ os) = 1 + same_count (u ∷ os)
same_count os = 1

-- How many items

-- an operand in place goes to a destination
abbrev pub moved_count : Destination → ℕ
moved_count nowhere = 0
moved_count push = 1
moved_count (into x) = 1
moved_count aside = 1

-- a condition as a word: beside its branch, 0, a jump and 1
abbrev pub truth_count : Destination → ℕ
truth_count nowhere = 0
truth_count push = 3
truth_count (into x) = 3
truth_count aside = 3

-- a variable is assigned: beside what puts the word there, or what pushes it
abbrev pub kept_count : Destination → ℕ → ℕ → ℕ
kept_count nowhere stored topmost = stored
kept_count push stored topmost = topmost + 1
kept_count (into y) stored topmost = topmost + 2
kept_count aside stored topmost = topmost + 2

-- a variable is stepped, and its old word goes to a destination
abbrev pub after_count : Destination → ℕ
after_count nowhere = 1
after_count push = 2
after_count (into x) = 3
after_count aside = 3

abbrev mutual
  -- an expression, whose word goes to a destination
  pub value_count : Value → Destination → ℕ
  value_count (source.number n) d = moved_count d
  value_count (source.read x) d = moved_count d
  value_count (source.call r vs) d = arguments_count (are_more_pushed (operands_of vs)) vs + 1
  value_count (source.prefixed prefixes.Not v) d = branch_count v false + truth_count d
  value_count (source.prefixed op v) d = if_pushed (alone v) (value_count v push) 0 + 1
  value_count (source.step_before op x) d = 1
  value_count (source.step_after x op) d = after_count d
  value_count (source.binary binaries.AndAlso a b) d =
      branch_count a false + branch_count b true + truth_count d
  value_count (source.binary binaries.OrElse a b) d =
      branch_count a true + branch_count b true + truth_count d
  value_count (source.binary op a b) d =
      if_pushed (left_of a b) (value_count a push) 0
      + if_pushed (alone b) (value_count b (right_place op (left_of a b))) 0 + 1
  value_count (source.compare op a b) d =
      if_pushed (left_of a b) (value_count a push) 0 + if_pushed (alone b) (value_count b push) 0 + 1
      + truth_count d
  value_count (source.equal op a bs) d =
      (if is_direct a bs then
      if_pushed (operand_of a bs) (value_count a push) 0 + operands_count bs + same_count (operands_of bs)
      else value_count a push + many_count bs)
      + truth_count d
  value_count (source.assign x v) d = kept_count d (value_count v (into x)) (value_count v push)
  value_count (source.entry width a i) d = if_pushed (alone i) (value_count i aside) 0 + 1
  value_count (source.assign_entry width a i v) d =
      if_pushed (left_of i v) (value_count i (index_place (alone v))) 0 + if_pushed (alone v) (value_count v aside) 0 + 1
  value_count (source.relative r v) d = if_pushed (alone v) (value_count v push) 0 + 1
  value_count (source.contained op a b) d =
      if_pushed (left_of a b) (value_count a push) 0 + if_pushed (alone b) (value_count b push) 0 + 1
      + truth_count d
  value_count (source.has positive v a) d = if_pushed (alone v) (value_count v push) 0 + 1 + truth_count d
  value_count (source.provides v p) d = if_pushed (alone v) (value_count v push) 0 + 1 + truth_count d
  value_count (source.property v p) d = if_pushed (alone v) (value_count v push) 0 + 1
  value_count (source.property_size v p) d = if_pushed (alone v) (value_count v push) 0 + 1
  value_count (source.property_word v p i) d =
      if_pushed (left_of v i) (value_count v push) 0 + if_pushed (alone i) (value_count i push) 0 + 1
  value_count (source.assign_property v p w) d =
      if_pushed (left_of v w) (value_count v push) 0 + if_pushed (alone w) (value_count w push) 0 + 1
  value_count (source.assign_property_word v p i w) d =
      if_pushed (first_of v i w) (value_count v push) 0 + if_pushed (left_of i w) (value_count i push) 0
      + if_pushed (alone w) (value_count w push) 0 + 1

  -- what pushes the operands of a list
  pub operands_count : Values → ℕ
  operands_count none = 0
  operands_count (more v vs) = if_pushed (operand_of v vs) (value_count v push) 0 + operands_count vs

  -- what puts the arguments of a call where it finds them
  pub arguments_count : Bool → Values → ℕ
  arguments_count several none = 0
  arguments_count several (more v vs) =
      if_pushed (operand_of v vs) (value_count v (argument_place several (is_any_pushed (operands_of vs)))) 0
      + arguments_count several vs

  -- a branch by the value
  pub branch_count : Value → Bool → ℕ
  branch_count (source.number n) when = if agrees (is_true n) when then 1 else 0
  branch_count (source.read x) when = 1
  branch_count (source.call r vs) when = arguments_count (are_more_pushed (operands_of vs)) vs + 1 + 1
  branch_count (source.prefixed prefixes.Not v) when = branch_count v (not when)
  branch_count (source.prefixed op v) when = if_pushed (alone v) (value_count v push) 0 + 1 + 1
  branch_count (source.step_before op x) when = 2
  branch_count (source.step_after x op) when = 3
  branch_count (source.binary binaries.AndAlso a b) when = branch_count a false + branch_count b when
  branch_count (source.binary binaries.OrElse a b) when = branch_count a true + branch_count b when
  branch_count (source.binary op a b) when =
      if_pushed (left_of a b) (value_count a push) 0
      + if_pushed (alone b) (value_count b (right_place op (left_of a b))) 0 + 1 + 1
  branch_count (source.compare op a b) when =
      if_pushed (left_of a b) (value_count a push) 0 + if_pushed (alone b) (value_count b push) 0 + 1
  branch_count (source.equal op a bs) when =
      if is_direct a bs then
      if_pushed (operand_of a bs) (value_count a push) 0 + operands_count bs + same_count (operands_of bs)
      else value_count a push + many_count bs
  branch_count (source.assign x v) when = value_count v push + 2
  branch_count (source.entry width a i) when = if_pushed (alone i) (value_count i aside) 0 + 1 + 1
  branch_count (source.assign_entry width a i v) when =
      if_pushed (left_of i v) (value_count i (index_place (alone v))) 0 + if_pushed (alone v) (value_count v aside) 0
      + 1 + 1
  branch_count (source.relative r v) when = if_pushed (alone v) (value_count v push) 0 + 1 + 1
  branch_count (source.contained op a b) when =
      if_pushed (left_of a b) (value_count a push) 0 + if_pushed (alone b) (value_count b push) 0 + 1
  branch_count (source.has positive v a) when = if_pushed (alone v) (value_count v push) 0 + 1
  branch_count (source.provides v p) when = if_pushed (alone v) (value_count v push) 0 + 1
  branch_count (source.property v p) when = if_pushed (alone v) (value_count v push) 0 + 1 + 1
  branch_count (source.property_size v p) when = if_pushed (alone v) (value_count v push) 0 + 1 + 1
  branch_count (source.property_word v p i) when =
      if_pushed (left_of v i) (value_count v push) 0 + if_pushed (alone i) (value_count i push) 0 + 1 + 1
  branch_count (source.assign_property v p w) when =
      if_pushed (left_of v w) (value_count v push) 0 + if_pushed (alone w) (value_count w push) 0 + 1 + 1
  branch_count (source.assign_property_word v p i w) when =
      if_pushed (first_of v i w) (value_count v push) 0 + if_pushed (left_of i w) (value_count i push) 0
      + if_pushed (alone w) (value_count w push) 0 + 1 + 1

  -- `==` of more than three that do not all stand in place: the left side is pushed, and a branch by its flag
  pub many_count : Values → ℕ
  many_count none = 1
  many_count (more v vs) = value_count v push + 1 + also_count vs

  -- its right sides after the first, and the branch
  pub also_count : Values → ℕ
  also_count none = 2
  also_count (more v vs) = value_count v push + 1 + also_count vs

-- what pushes an operand
abbrev pub operand_count : Value → Operand → ℕ
operand_count v o = if_pushed o (value_count v push) 0

-- The items; `at` is the number of the first

-- an operand in place goes to a destination
abbrev pub move_items : Operand → Destination → List Item
move_items o nowhere = []
move_items o push = move o push ∷ []
move_items o (into x) = move o (into x) ∷ []
move_items o aside = move o aside ∷ []

-- A condition as a word, where `count` items branch if it is true: 0, or 1. Only what it does is wanted where the
-- word goes nowhere.
abbrev pub truth_items : ℕ → ℕ → Destination → (ℕ → List Item) → List Item
truth_items at count nowhere branch_to = branch_to (at + count)
truth_items at count d branch_to =
    branch_to (at + count + 2) ++ move (number 0) d ∷ jump (at + count + 3) ∷ move (number 1) d ∷ []

-- a variable is stepped, and its old word goes on
abbrev pub after_items : Variable → Step → Destination → List Item
after_items x op nowhere = step op x nowhere ∷ []
after_items x op push = move (variable x) push ∷ step op x nowhere ∷ []
after_items x op (into y) = move (variable x) push ∷ step op x nowhere ∷ move pushed (into y) ∷ []
after_items x op aside = move (variable x) push ∷ step op x nowhere ∷ move pushed aside ∷ []

-- a variable is assigned, and its word goes on
abbrev pub kept_items : Variable → Destination → List Item → List Item → List Item
kept_items x nowhere stored topmost = stored
kept_items x push stored topmost = topmost ++ keep x ∷ []
kept_items x (into y) stored topmost = topmost ++ keep x ∷ move pushed (into y) ∷ []
kept_items x aside stored topmost = topmost ++ keep x ∷ move pushed aside ∷ []

-- items from a number on that branch, if a condition is so, to a target
abbrev pub Branching : Type 0
Branching = ℕ → Bool → ℕ → List Item

-- `&&`, where n items branch by its first operand and m by its second: a first one that is false decides
abbrev pub and_items : ℕ → ℕ → ℕ → Bool → ℕ → Branching → Branching → List Item
and_items at n m when target first second =
    first at false (if when then at + n + m else target) ++ second (at + n) when target

-- `||`: a first operand that is true decides
abbrev pub or_items : ℕ → ℕ → ℕ → Bool → ℕ → Branching → Branching → List Item
or_items at n m when target first second =
    first at true (if when then target else at + n + m) ++ second (at + n) when target

-- a branch where an operand equals one of others, and where there are more than three, `||` of several branches
abbrev pub same_items : Operand → List Operand → Branching
same_items o (x ∷ y ∷ z ∷ u ∷ os) at when target =
    branch same (o ∷ x ∷ y ∷ z ∷ []) true (if when then target else at + 1 + same_count (u ∷ os))
    ∷ same_items o (u ∷ os) (at + 1) when target
same_items o os at when target = branch same (o ∷ os) when target ∷ []

abbrev mutual
  -- an expression, whose word goes to a destination
  pub value_items : ℕ → Value → Destination → List Item
  value_items at (source.number n) d = move_items (number n) d
  value_items at (source.read x) d = move_items (variable x) d
  value_items at (source.call r vs) d =
      arguments_items (are_more_pushed (operands_of vs)) at vs
      ++ call_item (are_more_pushed (operands_of vs)) r (operands_of vs) d ∷ []
  value_items at (source.prefixed prefixes.Not v) d =
      truth_items at (branch_count v false) d (λ target. branch_items at v false target)
  value_items at (source.prefixed op v) d =
      if_pushed (alone v) (value_items at v push) [] ++ apply_prefix op (alone v) d ∷ []
  value_items at (source.step_before op x) d = step op x d ∷ []
  value_items at (source.step_after x op) d = after_items x op d
  value_items at (source.binary binaries.AndAlso a b) d =
      truth_items at (branch_count a false + branch_count b true) d (λ target.
      and_items at (branch_count a false) (branch_count b true) true target
      (λ at when target. branch_items at a when target) (λ at when target. branch_items at b when target))
  value_items at (source.binary binaries.OrElse a b) d =
      truth_items at (branch_count a true + branch_count b true) d (λ target.
      or_items at (branch_count a true) (branch_count b true) true target
      (λ at when target. branch_items at a when target) (λ at when target. branch_items at b when target))
  value_items at (source.binary op a b) d =
      if_pushed (left_of a b) (value_items at a push) []
      ++ (if_pushed (alone b)
      (value_items (at + operand_count a (left_of a b)) b (right_place op (left_of a b))) []
      ++ operation_item (right_place op (left_of a b)) op (left_of a b) (alone b) d ∷ [])
  value_items at (source.compare op a b) d =
      truth_items at (operand_count a (left_of a b) + operand_count b (alone b) + 1) d (λ target.
      if_pushed (left_of a b) (value_items at a push) []
      ++ (if_pushed (alone b) (value_items (at + operand_count a (left_of a b)) b push) []
      ++ branch (comparison_test op) (left_of a b ∷ alone b ∷ []) (comparison_when op true) target ∷ []))
  value_items at (source.equal op a bs) d =
      if is_direct a bs then
      truth_items at (operand_count a (operand_of a bs) + operands_count bs + same_count (operands_of bs)) d (λ target.
      if_pushed (operand_of a bs) (value_items at a push) []
      ++ (operands_items (at + operand_count a (operand_of a bs)) bs
      ++ same_items (operand_of a bs) (operands_of bs) (at + operand_count a (operand_of a bs) + operands_count bs)
      (equality_when op true) target))
      else truth_items at (value_count a push + many_count bs) d
      (λ target. value_items at a push ++ many_items (at + value_count a push) op bs true target)
  value_items at (source.assign x v) d =
      kept_items x d (value_items at v (into x)) (value_items at v push)
  value_items at (source.entry width a i) d =
      if_pushed (alone i) (value_items at i aside) [] ++ entry_item width a (alone i) d ∷ []
  value_items at (source.assign_entry width a i v) d =
      if_pushed (left_of i v) (value_items at i (index_place (alone v))) []
      ++ (if_pushed (alone v)
      (value_items (at + if_pushed (left_of i v) (value_count i (index_place (alone v))) 0) v aside) []
      ++ assign_entry_item width a (left_of i v) (alone v) d ∷ [])
  value_items at (source.relative r v) d = if_pushed (alone v) (value_items at v push) [] ++ relative r (alone v) d ∷ []
  value_items at (source.contained op a b) d =
      truth_items at (operand_count a (left_of a b) + operand_count b (alone b) + 1) d (λ target.
      if_pushed (left_of a b) (value_items at a push) []
      ++ (if_pushed (alone b) (value_items (at + operand_count a (left_of a b)) b push) []
      ++ is_in (left_of a b) (alone b) (containment_when op true) target ∷ []))
  value_items at (source.has positive v a) d =
      truth_items at (operand_count v (alone v) + 1) d (λ target.
      if_pushed (alone v) (value_items at v push) [] ++ has (alone v) a (agrees positive true) target ∷ [])
  value_items at (source.provides v p) d =
      truth_items at (operand_count v (alone v) + 1) d (λ target.
      if_pushed (alone v) (value_items at v push) [] ++ provides (alone v) p true target ∷ [])
  value_items at (source.property v p) d = if_pushed (alone v) (value_items at v push) [] ++ property (alone v) p d ∷ []
  value_items at (source.property_size v p) d =
      if_pushed (alone v) (value_items at v push) [] ++ property_size (alone v) p d ∷ []
  value_items at (source.property_word v p i) d =
      if_pushed (left_of v i) (value_items at v push) []
      ++ (if_pushed (alone i) (value_items (at + operand_count v (left_of v i)) i push) []
      ++ property_word p (left_of v i) (alone i) d ∷ [])
  value_items at (source.assign_property v p w) d =
      if_pushed (left_of v w) (value_items at v push) []
      ++ (if_pushed (alone w) (value_items (at + operand_count v (left_of v w)) w push) []
      ++ assign_property p (left_of v w) (alone w) d ∷ [])
  value_items at (source.assign_property_word v p i w) d =
      if_pushed (first_of v i w) (value_items at v push) []
      ++ (if_pushed (left_of i w) (value_items (at + operand_count v (first_of v i w)) i push) []
      ++ (if_pushed (alone w)
      (value_items (at + operand_count v (first_of v i w) + operand_count i (left_of i w)) w push) []
      ++ assign_property_word p (first_of v i w) (left_of i w) (alone w) d ∷ []))

  -- what pushes the operands of a list
  pub operands_items : ℕ → Values → List Item
  operands_items at none = []
  operands_items at (more v vs) =
      if_pushed (operand_of v vs) (value_items at v push) []
      ++ operands_items (at + operand_count v (operand_of v vs)) vs

  -- what puts the arguments of a call where it finds them
  pub arguments_items : Bool → ℕ → Values → List Item
  arguments_items several at none = []
  arguments_items several at (more v vs) =
      if_pushed (operand_of v vs)
      (value_items at v (argument_place several (is_any_pushed (operands_of vs)))) []
      ++ arguments_items several
      (at + if_pushed (operand_of v vs)
      (value_count v (argument_place several (is_any_pushed (operands_of vs)))) 0) vs

  -- forward to the target if the value is true, or if it is not
  pub branch_items : ℕ → Value → Bool → ℕ → List Item
  branch_items at (source.number n) when target =
      if agrees (is_true n) when then jump target ∷ [] else []
  branch_items at (source.read x) when target = branch_true (variable x) when target ∷ []
  branch_items at (source.call r vs) when target =
      arguments_items (are_more_pushed (operands_of vs)) at vs
      ++ call_item (are_more_pushed (operands_of vs)) r (operands_of vs) push ∷ branch_true pushed when target ∷ []
  branch_items at (source.prefixed prefixes.Not v) when target = branch_items at v (not when) target
  branch_items at (source.prefixed op v) when target =
      if_pushed (alone v) (value_items at v push) []
      ++ apply_prefix op (alone v) push ∷ branch_true pushed when target ∷ []
  branch_items at (source.step_before op x) when target =
      step op x push ∷ branch_true pushed when target ∷ []
  branch_items at (source.step_after x op) when target =
      move (variable x) push ∷ step op x nowhere ∷ branch_true pushed when target ∷ []
  branch_items at (source.binary binaries.AndAlso a b) when target =
      and_items at (branch_count a false) (branch_count b when) when target
      (λ at when target. branch_items at a when target) (λ at when target. branch_items at b when target)
  branch_items at (source.binary binaries.OrElse a b) when target =
      or_items at (branch_count a true) (branch_count b when) when target
      (λ at when target. branch_items at a when target) (λ at when target. branch_items at b when target)
  branch_items at (source.binary op a b) when target =
      if_pushed (left_of a b) (value_items at a push) []
      ++ (if_pushed (alone b)
      (value_items (at + operand_count a (left_of a b)) b (right_place op (left_of a b))) []
      ++ operation_item (right_place op (left_of a b)) op (left_of a b) (alone b) push
      ∷ branch_true pushed when target ∷ [])
  branch_items at (source.compare op a b) when target =
      if_pushed (left_of a b) (value_items at a push) []
      ++ (if_pushed (alone b) (value_items (at + operand_count a (left_of a b)) b push) []
      ++ branch (comparison_test op) (left_of a b ∷ alone b ∷ []) (comparison_when op when) target ∷ [])
  branch_items at (source.equal op a bs) when target =
      if is_direct a bs then
      if_pushed (operand_of a bs) (value_items at a push) []
      ++ (operands_items (at + operand_count a (operand_of a bs)) bs
      ++ same_items (operand_of a bs) (operands_of bs) (at + operand_count a (operand_of a bs) + operands_count bs)
      (equality_when op when) target)
      else value_items at a push ++ many_items (at + value_count a push) op bs when target
  branch_items at (source.assign x v) when target =
      value_items at v push ++ keep x ∷ branch_true pushed when target ∷ []
  branch_items at (source.entry width a i) when target =
      if_pushed (alone i) (value_items at i aside) []
      ++ entry_item width a (alone i) push ∷ branch_true pushed when target ∷ []
  branch_items at (source.assign_entry width a i v) when target =
      if_pushed (left_of i v) (value_items at i (index_place (alone v))) []
      ++ (if_pushed (alone v)
      (value_items (at + if_pushed (left_of i v) (value_count i (index_place (alone v))) 0) v aside) []
      ++ assign_entry_item width a (left_of i v) (alone v) push ∷ branch_true pushed when target ∷ [])
  branch_items at (source.relative r v) when target =
      if_pushed (alone v) (value_items at v push) []
      ++ relative r (alone v) push ∷ branch_true pushed when target ∷ []
  branch_items at (source.contained op a b) when target =
      if_pushed (left_of a b) (value_items at a push) []
      ++ (if_pushed (alone b) (value_items (at + operand_count a (left_of a b)) b push) []
      ++ is_in (left_of a b) (alone b) (containment_when op when) target ∷ [])
  branch_items at (source.has positive v a) when target =
      if_pushed (alone v) (value_items at v push) [] ++ has (alone v) a (agrees positive when) target ∷ []
  branch_items at (source.provides v p) when target =
      if_pushed (alone v) (value_items at v push) [] ++ provides (alone v) p when target ∷ []
  branch_items at (source.property v p) when target =
      if_pushed (alone v) (value_items at v push) []
      ++ property (alone v) p push ∷ branch_true pushed when target ∷ []
  branch_items at (source.property_size v p) when target =
      if_pushed (alone v) (value_items at v push) []
      ++ property_size (alone v) p push ∷ branch_true pushed when target ∷ []
  branch_items at (source.property_word v p i) when target =
      if_pushed (left_of v i) (value_items at v push) []
      ++ (if_pushed (alone i) (value_items (at + operand_count v (left_of v i)) i push) []
      ++ property_word p (left_of v i) (alone i) push ∷ branch_true pushed when target ∷ [])
  branch_items at (source.assign_property v p w) when target =
      if_pushed (left_of v w) (value_items at v push) []
      ++ (if_pushed (alone w) (value_items (at + operand_count v (left_of v w)) w push) []
      ++ assign_property p (left_of v w) (alone w) push ∷ branch_true pushed when target ∷ [])
  branch_items at (source.assign_property_word v p i w) when target =
      if_pushed (first_of v i w) (value_items at v push) []
      ++ (if_pushed (left_of i w) (value_items (at + operand_count v (first_of v i w)) i push) []
      ++ (if_pushed (alone w)
      (value_items (at + operand_count v (first_of v i w) + operand_count i (left_of i w)) w push) []
      ++ assign_property_word p (first_of v i w) (left_of i w) (alone w) push ∷ branch_true pushed when target ∷ []))

  -- `==` of more than three that do not all stand in place, where the left side is pushed
  pub many_items : ℕ → Equality → Values → Bool → ℕ → List Item
  many_items at op none when target = branch_true pushed when target ∷ []
  many_items at op (more v vs) when target =
      value_items at v push ++ first_equal ∷ also_items (at + value_count v push + 1) op vs when target

  -- its right sides after the first, each folded into the flag, and the branch by that
  pub also_items : ℕ → Equality → Values → Bool → ℕ → List Item
  also_items at op none when target =
      drop_below ∷ branch_true pushed (equality_when op when) target ∷ []
  also_items at op (more v vs) when target =
      value_items at v push ++ also_equal ∷ also_items (at + value_count v push + 1) op vs when target

-- the items that push an operand which stands alone
abbrev pub alone_items : ℕ → Value → List Item
alone_items at v = if_pushed (alone v) (value_items at v push) []
