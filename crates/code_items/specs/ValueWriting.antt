-- Words of proofs: what is written of the parts of an expression.
use Rattle.std.specs.Prelude.{◌≡◌, ◌+◌, ℕ, Bool, if◌then◌else◌, List, [], ◌∷◌, ◌++◌, map}
use Rattle.syntax_trees.specs.declared.tree.Binary.{Binary}
use Rattle.syntax_trees.specs.declared.tree.Comparison.{Comparison}
use Rattle.syntax_trees.specs.declared.tree.Containment.{Containment}
use Rattle.syntax_trees.specs.declared.tree.Equality.{Equality}
use Rattle.syntax_trees.specs.declared.tree.Width.{Width}
use Rattle.meaning.specs.declared.resolved.Value as code_value
use Rattle.meaning.specs.Resolved.{Value, Values, none, more}
use Rattle.meaning.specs.Views.{value_of, chained, propertied}
use Rattle.meaning.specs.Resolved as source
use Rattle.code_drafts.specs.Items.{Item, Operand, Destination, pushed, push, alone, left_of, if_pushed, value_count}
use Rattle.code_drafts.specs.Items.{value_items, operands_items, arguments_items}
use Rattle.code_drafts.specs.Items as items
use Rattle.code_drafts.specs.Code.{as_operand, as_destination}
use Rattle.code_drafts.specs.declared.item.Operand as code_operand
use Rattle.code_drafts.specs.declared.item.Destination as code_destination
use Rattle.code_drafts.specs.declared.draft.Draft.{Draft}
use Rattle.code_drafts.specs.declared.wanted.Wanted.{Wanted}
use Rattle.code_drafts.specs.Writing.{written_in, Leaves, wanted_items, is_logical, link_of, first_operand}
use Rattle.code_drafts.specs.Writing.{second_operand, values_in, Writes}

-- the items that push an operand
abbrev pub pushes : Operand → Value → ℕ → ℕ → List Item
pushes o v n at = if_pushed o (value_items at v push) []

-- Operations

-- the items that put an operand where it goes
abbrev pub operand_items : Destination → Operand → Value → ℕ → ℕ → List Item
operand_items place o v n at = if_pushed o (value_items at v place) []

-- the first operand, where something is wanted of it
abbrev pub first_items : Binary → Operand → Wanted → Value → ℕ → ℕ → List Item
first_items op o wanted v n at = if is_logical op then wanted_items wanted v n at else if_pushed o
    (wanted_items wanted v n at) []

-- `==` and `~=`

-- the items that push both
abbrev pub both_push : Operand → Value → Operand → Value → ℕ → ℕ → List Item
both_push oa a ob b n at = if_pushed oa (value_items at a push) [] ++ if_pushed ob
    (value_items (at + if_pushed oa (value_count a push) 0) b push) []

-- the alternatives, each folded into the flag
abbrev pub folded_items : ℕ → Values → List Item
folded_items at none = []
folded_items at (more v vs) =
    value_items at v push ++ items.also_equal ∷ folded_items (at + value_count v push + 1) vs

-- What functions leave to be written

-- an operation: those of its first operand
abbrev pub ReducesLink : List Item → List Item → Wanted → Wanted → Binary → Operand → Value → Type 0
ReducesLink old new wanted rest op o b = (v : Value) → o ≡ left_of v b
    → Leaves old new (wanted_items wanted (source.binary op v b)) (first_items op o rest v)

-- a chain of operations: those of what stands before it
abbrev pub ReducesLinks : List Item → List Item → Wanted → Wanted → List (Binary × Value) → Type 0
ReducesLinks old new wanted rest ls = (v : Value) → ((b : Value) → pushed ≡ left_of v b)
    → Leaves old new (wanted_items wanted (chained v ls)) (wanted_items rest v)

-- a comparison: those that push its left side
abbrev pub ReducesComparison : List Item → List Item → Wanted → Comparison → Operand → Value → Type 0
ReducesComparison old new wanted op o b = (v : Value) → o ≡ left_of v b
    → Leaves old new (wanted_items wanted (source.compare op v b)) (pushes o v)

-- an assignment to an entry: those that put its index where it goes
abbrev pub ReducesAssignedEntry : List Item → List Item → Wanted → Width → ℕ → Operand → Value → Type 0
ReducesAssignedEntry old new wanted width a o v = (i : Value) → o ≡ left_of i v
    → Leaves old new (wanted_items wanted (source.assign_entry width a i v)) (operand_items (items.index_place (alone v)) o i)

-- `in` and `notin`: those that push the object
abbrev pub ReducesContained : List Item → List Item → Wanted → Containment → Operand → Value → Type 0
ReducesContained old new wanted op o b = (v : Value) → o ≡ left_of v b
    → Leaves old new (wanted_items wanted (source.contained op v b)) (pushes o v)

-- properties, each of the word of the one before it: those of what stands before them
abbrev pub ReducesProperties : List Item → List Item → Wanted → Wanted → List ℕ → Type 0
ReducesProperties old new wanted rest ps = (v : Value) → pushed ≡ alone v
    → Leaves old new (wanted_items wanted (propertied v ps)) (wanted_items rest v)

-- a word of a property: those that push the object
abbrev pub ReducesPropertyWord : List Item → List Item → Wanted → ℕ → Operand → Value → Type 0
ReducesPropertyWord old new wanted p o i = (v : Value) → o ≡ left_of v i
    → Leaves old new (wanted_items wanted (source.property_word v p i)) (pushes o v)

-- an assignment to a property: those that push the object
abbrev pub ReducesAssignedProperty : List Item → List Item → Wanted → ℕ → Operand → Value → Type 0
ReducesAssignedProperty old new wanted p o w = (v : Value) → o ≡ left_of v w
    → Leaves old new (wanted_items wanted (source.assign_property v p w)) (pushes o v)

-- an assignment to a word of a property: those that push object and index
abbrev pub ReducesAssignedWord : List Item → List Item → Wanted → ℕ → Operand → Operand → Value → Type 0
ReducesAssignedWord old new wanted p o q w = (v i : Value) → o ≡ items.first_of v i w → q ≡ left_of i w
    → Leaves old new (wanted_items wanted (source.assign_property_word v p i w)) (both_push o v q i)

-- `==` and `~=`: those that push the left side and the first right side
abbrev pub ReducesEquality : List Item → List Item → Wanted → Equality → Operand → Operand → Values → Type 0
ReducesEquality old new wanted op oa ob bs =
    (a b : Value) → oa ≡ first_operand a b bs → ob ≡ second_operand a b bs
    → Leaves old new (wanted_items wanted (source.equal op a (more b bs))) (both_push oa a ob b)

-- The same of drafts, as the code has them

-- what pushes an operand
abbrev pub WritesOperand : Draft → Draft → code_operand.Operand → code_value.Value → Type 0
WritesOperand old new o v = Writes old new (pushes (as_operand o) (value_of v))

-- what puts an operand where it goes
abbrev pub WritesPlaced : Draft → Draft → code_operand.Operand → code_destination.Destination → code_value.Value
    → Type 0
WritesPlaced old new o place v = Writes old new (operand_items (as_destination place) (as_operand o) (value_of v))

-- what pushes the operands of a list
abbrev pub WritesOperands : Draft → Draft → List code_value.Value → Type 0
WritesOperands old new vs = Writes old new (λ n at. operands_items at (values_in vs))

-- what puts the arguments of a call where it finds them
abbrev pub WritesArguments : Draft → Draft → List code_value.Value → Bool → Type 0
WritesArguments old new vs several = Writes old new (λ n at. arguments_items several at (values_in vs))

-- right sides that are folded into a flag
abbrev pub WritesFolded : Draft → Draft → List code_value.Value → Type 0
WritesFolded old new vs = Writes old new (λ n at. folded_items at (values_in vs))

-- an operator with its second operand
abbrev pub WritesLink : Draft → Draft → Wanted → Wanted → Binary → code_operand.Operand → code_value.Value → Type 0
WritesLink old new wanted rest op o b = ReducesLink (written_in old) (written_in new) wanted rest op (as_operand o)
    (value_of b)

-- several of them
abbrev pub WritesLinks : Draft → Draft → Wanted → Wanted → List (Binary × code_value.Value) → Type 0
WritesLinks old new wanted rest ls = ReducesLinks (written_in old) (written_in new) wanted rest (map link_of ls)

-- a comparison with its right side
abbrev pub WritesComparison : Draft → Draft → Wanted → Comparison → code_operand.Operand → code_value.Value → Type 0
WritesComparison old new wanted op o b =
    ReducesComparison (written_in old) (written_in new) wanted op (as_operand o) (value_of b)

-- an assignment to an entry, with the value
abbrev pub WritesAssignedEntry : Draft → Draft → Wanted → Width → ℕ → code_operand.Operand → code_value.Value → Type 0
WritesAssignedEntry old new wanted width a o v =
    ReducesAssignedEntry (written_in old) (written_in new) wanted width a (as_operand o) (value_of v)

-- `in` or `notin` with the word at its right
abbrev pub WritesContained : Draft → Draft → Wanted → Containment → code_operand.Operand → code_value.Value → Type 0
WritesContained old new wanted op o b =
    ReducesContained (written_in old) (written_in new) wanted op (as_operand o) (value_of b)

-- properties, each of the word of the one before it
abbrev pub WritesProperties : Draft → Draft → Wanted → Wanted → List ℕ → Type 0
WritesProperties old new wanted rest ps = ReducesProperties (written_in old) (written_in new) wanted rest ps

-- a word of a property, with the index
abbrev pub WritesPropertyWord : Draft → Draft → Wanted → ℕ → code_operand.Operand → code_value.Value → Type 0
WritesPropertyWord old new wanted p o i =
    ReducesPropertyWord (written_in old) (written_in new) wanted p (as_operand o) (value_of i)

-- an assignment to a property, with the value
abbrev pub WritesAssignedProperty : Draft → Draft → Wanted → ℕ → code_operand.Operand → code_value.Value → Type 0
WritesAssignedProperty old new wanted p o w =
    ReducesAssignedProperty (written_in old) (written_in new) wanted p (as_operand o) (value_of w)

-- an assignment to a word of a property, with the value
abbrev pub WritesAssignedWord : Draft → Draft → Wanted → ℕ → code_operand.Operand → code_operand.Operand
    → code_value.Value → Type 0
WritesAssignedWord old new wanted p o q w =
    ReducesAssignedWord (written_in old) (written_in new) wanted p (as_operand o) (as_operand q) (value_of w)

-- `==` or `~=` with the right sides after the first
abbrev pub WritesEquality : Draft → Draft → Wanted → Equality → code_operand.Operand → code_operand.Operand
    → List code_value.Value → Type 0
WritesEquality old new wanted op oa ob bs =
    ReducesEquality (written_in old) (written_in new) wanted op (as_operand oa) (as_operand ob) (values_in bs)

-- the first operand of an operation
abbrev pub WritesFirst : Draft → Draft → Binary → code_operand.Operand → Wanted → code_value.Value → Type 0
WritesFirst old new op o wanted v = Writes old new (first_items op (as_operand o) wanted (value_of v))
