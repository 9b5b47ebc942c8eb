-- Words of proofs: statements that are written from the last to the first.
use Rattle.std.specs.Prelude.{◌≡◌, ◌-◌, ℕ, List, [], ◌∷◌, ◌++◌, length, map}
use Rattle.meaning.specs.declared.resolved.Variable.{Variable}
use Rattle.meaning.specs.declared.resolved.Value as code_value
use Rattle.meaning.specs.declared.resolved.Printed as code_printed
use Rattle.std.specs.Global.{Vec}
use Rattle.meaning.specs.declared.resolved.Span.{Span}
use Rattle.meaning.specs.declared.resolved.Action as code_action
use Rattle.meaning.specs.Resolved.{Value, RangeOf, Action, Actions, CasesOf}
use Rattle.meaning.specs.Views.{value_of, printed_of, case_of}
use Rattle.meaning.specs.Resolved as source
use Rattle.code_drafts.specs.Items.{Item, Operand, push, if_pushed, value_items}
use Rattle.code_items.specs.Statements.{prints_items, Exits, action_items, cases_items}
use Rattle.code_drafts.specs.Items as items
use Rattle.code_drafts.specs.Code.{as_operand, item_of}
use Rattle.code_drafts.specs.declared.item.Item as code_item
use Rattle.code_drafts.specs.declared.item.Operand as code_operand
use Rattle.code_drafts.specs.declared.draft.Draft.{Draft}
use Rattle.code_items.specs.declared.exits.Exits as code_exits
use Rattle.code_drafts.specs.Writing.{written_in, numbered, Writes, WritesBefore}

-- what `print` prints
abbrev pub WritesPrinted : Draft → Draft → List code_printed.Printed → Type 0
WritesPrinted old new is = Writes old new (λ n at. prints_items at (map printed_of is))

-- an item that takes an operand, after what pushes that
abbrev pub taken_items : Operand → Item → Value → ℕ → ℕ → List Item
taken_items o i v n at = if_pushed o (value_items at v push) [] ++ numbered n i ∷ []

-- an item that takes an operand, and what pushes that
abbrev pub WritesTaken : Draft → Draft → code_operand.Operand → code_item.Item → code_value.Value → Type 0
WritesTaken old new o i v = Writes old new (taken_items (as_operand o) (item_of i) (value_of v))

-- where `break` and `continue` lead, told by how many items there are from there on, where there are n in all
abbrev pub exits_of : ℕ → code_exits.Exits → Exits
exits_of n x = record { breaks = n - x.breaks; continues = n - x.continues }

-- a statement
abbrev pub WritesAction : Draft → Draft → code_exits.Exits → Action → Type 0
WritesAction old new x a = Writes old new (λ n at. action_items (exits_of n x) at a)

-- the cases of a `switch`, or those from some on; at its end so many items are left
abbrev pub WritesCases : Draft → Draft → code_exits.Exits → CasesOf → ℕ → Type 0
WritesCases old new x cs end = Writes old new (λ n at. cases_items (exits_of n x) at cs (n - end))

-- cases before others
abbrev pub cases_before : List (List RangeOf × Actions) → CasesOf → CasesOf
cases_before [] later = later
cases_before (c ∷ cs) later = source.case c.0 c.1 (cases_before cs later)

-- these cases were written before the later ones of a `switch`
abbrev pub LeavesCases : Draft → Draft → code_exits.Exits → List (Vec Span × Vec code_action.Action) → ℕ → Type 0
LeavesCases old new x cs end =
    (start : List Item) (later : CasesOf) → length start ≡ end
    → WritesBefore start (written_in old) (λ n at. cases_items (exits_of n x) at later (n - end))
    → WritesBefore start (written_in new)
    (λ n at. cases_items (exits_of n x) at (cases_before (map case_of cs) later) (n - end))

-- the way to the next object and back, whose target is not yet told; where the body before it leads
abbrev pub PutsNext : Draft → Draft → Variable → code_exits.Exits → Type 0
PutsNext old new x exits =
    (written_in new ≡ written_in old ++ items.back 0 ∷ items.next_object x (length (written_in old)) ∷ [])
    × (exits.breaks ≡ length (written_in old)) × (exits.continues ≡ length (written_in new))
