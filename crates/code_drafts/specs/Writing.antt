-- Words of proofs: items that are written from the last to the first.
use Rattle.std.specs.Prelude.{◌≡◌, ◌||◌, ◌+◌, ◌-◌, ◌≤◌, ℕ, Bool, true, false, if◌then◌else◌, List, [], ◌∷◌, ◌++◌}
use Rattle.std.specs.Prelude.{length, map, reverse, slice_index_or, slice_set}
use Rattle.syntax_trees.specs.declared.tree.Binary.{Binary}
use Rattle.syntax_trees.specs.declared.tree.Binary.TheVariants as binaries
use Rattle.meaning.specs.declared.resolved.Variable.{Variable}
use Rattle.meaning.specs.declared.resolved.Value as code_value
use Rattle.meaning.specs.Resolved.{Value, Values, none, more}
use Rattle.meaning.specs.Views.{value_of, values_of}
use Rattle.code_drafts.specs.Items.{Item, Operand, pushed, changes, Destination, push, alone, operand_of, operands_of}
use Rattle.code_drafts.specs.Items.{is_direct}
use Rattle.code_drafts.specs.Items.{branch_true, branch_count, truth_items, value_items, branch_items, move_items}
use Rattle.code_drafts.specs.Items as items
use Rattle.code_drafts.specs.Code.{as_operand, as_operands, as_destination, items_of}
use Rattle.code_drafts.specs.declared.item.Operand as code_operand
use Rattle.code_drafts.specs.declared.item.Destination as code_destination
use Rattle.code_drafts.specs.declared.draft.Draft.{Draft}
use Rattle.code_drafts.specs.declared.wanted.Wanted.{Wanted}
use Rattle.code_drafts.specs.declared.wanted.Wanted.TheVariants.{Word, Branch}

-- the items of a draft
abbrev pub written_in : Draft → List Item
written_in draft = items_of draft.items.items

-- an item whose target is told by how many items there are from there on, where there are n in all
abbrev pub numbered : ℕ → Item → Item
numbered n (items.branch test os when left) = items.branch test os when (n - left)
numbered n (items.is_in o q when left) = items.is_in o q when (n - left)
numbered n (items.has o a when left) = items.has o a when (n - left)
numbered n (items.provides o p when left) = items.provides o p when (n - left)
numbered n (items.first_object x left) = items.first_object x (n - left)
numbered n (items.next_object x left) = items.next_object x (n - left)
numbered n (items.case test ns when left) = items.case test ns when (n - left)
numbered n (items.jump left) = items.jump (n - left)
numbered n (items.back left) = items.back (n - left)
numbered n (items.branch_back test os when left) = items.branch_back test os when (n - left)
numbered n i = i

-- a whole routine of n items, from the first on, with the numbers of its targets
abbrev pub in_order : ℕ → List Item → List Item
in_order n written = map (numbered n) (reverse written)

-- What was written between old and new: items that depend on how many there are in all, and on the number of the
-- first of them.
pub record WritesBefore (old new : List Item) (items : ℕ → ℕ → List Item) : Type 0 where
  pub more : List Item
  pub is : new ≡ old ++ more
  pub are : (n : ℕ) → length new ≤ n → in_order n more ≡ items n (n - length new)

-- what was written, if more is written before it, makes a whole
pub record Leaves (old new : List Item) (whole rest : ℕ → ℕ → List Item) : Type 0 where
  pub with_rest : (end : List Item) → WritesBefore new end rest → WritesBefore old end whole

-- what is wanted of a value
abbrev pub wanted_items : Wanted → Value → ℕ → ℕ → List Item
wanted_items (Word d) v n at = value_items at v (as_destination d)
wanted_items (Branch when left) v n at = branch_items at v when (n - left)

-- a value that is 1 or 0 by a branch, and one that has a word by which there is a branch
abbrev pub IsCondition : Value → Type 0
IsCondition v = (at : ℕ) (d : Destination) → value_items at v d
    ≡ truth_items at (branch_count v true) d (λ t. branch_items at v true t)

abbrev pub IsWord : Value → Type 0
IsWord v = (at t : ℕ) (when : Bool) → branch_items at v when t ≡ value_items at v push ++ branch_true pushed when t
    ∷ []

-- Operations

-- `&&` or `||`
abbrev pub is_logical : Binary → Bool
is_logical binaries.AndAlso = true
is_logical binaries.OrElse = true
is_logical _ = false

-- an operator with its second operand
abbrev pub link_of : Binary × code_value.Value → Binary × Value
link_of l = (l.0, value_of l.1)

-- the operator of a chain that is done last
abbrev pub last_operator : Binary → List (Binary × Value) → Binary
last_operator op [] = op
last_operator op (l ∷ ls) = last_operator l.0 ls

-- evaluation of the operands of a chain may change the variable
abbrev pub change_links : Variable → List (Binary × Value) → Bool
change_links x [] = false
change_links x (l ∷ ls) = changes x l.1 || change_links x ls

-- `==` and `~=`

-- the operand for the left side, before the first right side and others
abbrev pub first_operand : Value → Value → Values → Operand
first_operand a b bs = if is_direct a (more b bs) then operand_of a (more b bs) else pushed

-- the operand for the first right side
abbrev pub second_operand : Value → Value → Values → Operand
second_operand a b bs = if is_direct a (more b bs) then operand_of b bs else pushed

-- the operands for right sides that stand in place
abbrev pub alones : Values → List Operand
alones none = []
alones (more v vs) = alone v ∷ alones vs

-- a condition as a word
abbrev pub chosen_items : Value → Destination → ℕ → List Item
chosen_items v d at =
    branch_items at v true (at + branch_count v true + 2) ++ items.move (items.number 0) d ∷ items.jump
    (at + branch_count v true + 3) ∷ items.move (items.number 1) d ∷ []

-- What functions leave to be written

-- a value that has a word: the items that leave it at a destination
abbrev pub ReducesWord : List Item → List Item → Wanted → Destination → Type 0
ReducesWord old new wanted d = (v : Value) → IsWord v → Leaves old new (wanted_items wanted v)
    (λ n at. value_items at v d)

-- a condition: the items that branch by it
abbrev pub ReducesTruth : List Item → List Item → Wanted → Bool → ℕ → Type 0
ReducesTruth old new wanted when left = (v : Value) → IsCondition v → Leaves old new (wanted_items wanted v)
    (λ n at. branch_items at v when (n - left))

-- a condition as a word: the items that branch to its 1
abbrev pub ReducesChoice : List Item → List Item → Destination → ℕ → Type 0
ReducesChoice old new d left = (v : Value) → Leaves old new (λ n at. chosen_items v d at)
    (λ n at. branch_items at v true (n - left))

-- The same of drafts, as the code has them

-- expressions as values
abbrev pub values_in : List code_value.Value → Values
values_in xs = values_of (map value_of xs)

-- an expression before others
abbrev pub more_in : code_value.Value → List code_value.Value → Values
more_in x xs = more (value_of x) (values_in xs)

-- the operands for expressions that are evaluated one after another
abbrev pub all_operands : List code_value.Value → List Operand
all_operands xs = operands_of (values_in xs)

-- these items were written before what stood
abbrev pub Writes : Draft → Draft → (ℕ → ℕ → List Item) → Type 0
Writes old new items = WritesBefore (written_in old) (written_in new) items

-- an expression, of which something is wanted
abbrev pub WritesValue : Draft → Draft → Wanted → Value → Type 0
WritesValue old new wanted v = Writes old new (wanted_items wanted v)

-- what follows a value that has a word
abbrev pub WritesWord : Draft → Draft → Wanted → code_destination.Destination → Type 0
WritesWord old new wanted d = ReducesWord (written_in old) (written_in new) wanted (as_destination d)

-- what follows a condition
abbrev pub WritesTruth : Draft → Draft → Wanted → Bool → ℕ → Type 0
WritesTruth old new wanted when left = ReducesTruth (written_in old) (written_in new) wanted when left

-- 0, and 1 after it
abbrev pub WritesChoice : Draft → Draft → code_destination.Destination → ℕ → Type 0
WritesChoice old new d left = ReducesChoice (written_in old) (written_in new) (as_destination d) left

-- an operand in place goes to a destination
abbrev pub WritesMoved : Draft → Draft → code_operand.Operand → code_destination.Destination → Type 0
WritesMoved old new o d = Writes old new (λ n at. move_items (as_operand o) (as_destination d))

-- one item more, as it stands
abbrev pub PutsItem : Draft → Draft → Item → Type 0
PutsItem old new i = written_in new ≡ written_in old ++ i ∷ []

-- the whole routine of a draft
abbrev pub items_in_order : Draft → List Item
items_in_order draft = in_order (length (written_in draft)) (written_in draft)

-- the item of this number leads back to the first
abbrev pub LeadsBack : Draft → Draft → ℕ → Type 0
LeadsBack old new number =
    written_in new ≡ slice_set (written_in old) number (items.back (length (written_in old)))

-- the item of this number, if it is a branch, leads back to the first, where its test is the other way round
abbrev pub TurnsBack : Draft → Draft → ℕ → Type 0
TurnsBack old new number =
    written_in new
    ≡ slice_set (written_in old) number
    (items.turned_back (length (written_in old)) (slice_index_or (written_in old) number items.quit))

-- the operand for the left side of `==` or `~=`
abbrev pub left_side : code_value.Value → code_value.Value → List code_value.Value → Operand
left_side a b bs = first_operand (value_of a) (value_of b) (values_in bs)

-- the one for the first right side
abbrev pub right_side : code_value.Value → code_value.Value → List code_value.Value → Operand
right_side a b bs = second_operand (value_of a) (value_of b) (values_in bs)

-- an operand equals one of others: a branch by it
abbrev pub WritesSame : Draft → Draft → code_operand.Operand → List code_operand.Operand → Bool → ℕ → Type 0
WritesSame old new o os when left =
    Writes old new (λ n at. items.same_items (as_operand o) (as_operands os) at when (n - left))

-- after other operands stand those for expressions that are evaluated one after another
abbrev pub AddsOperands : List code_operand.Operand → List code_operand.Operand → List code_value.Value → Type 0
AddsOperands old new xs = as_operands new ≡ as_operands old ++ all_operands xs

-- after other operands stand those for expressions that stand in place
abbrev pub AddsAlone : List code_operand.Operand → List code_operand.Operand → List code_value.Value → Type 0
AddsAlone old new xs = as_operands new ≡ as_operands old ++ alones (values_in xs)
