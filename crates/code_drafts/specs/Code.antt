-- What the code's items stand for.
use Rattle.std.specs.Prelude.{List, map}
use Rattle.code_drafts.specs.Items.{Operand, Destination, Test, Item}
use Rattle.code_drafts.specs.Items as items
use Rattle.code_drafts.specs.declared.item.Operand as code_operand
use Rattle.code_drafts.specs.declared.item.Operand.TheVariants as operands
use Rattle.code_drafts.specs.declared.item.Destination as code_destination
use Rattle.code_drafts.specs.declared.item.Destination.TheVariants as destinations
use Rattle.code_drafts.specs.declared.item.Test as code_test
use Rattle.code_drafts.specs.declared.item.Test.TheVariants as tests
use Rattle.code_drafts.specs.declared.item.Item as code
use Rattle.code_drafts.specs.declared.item.Item.TheVariants as variants

-- an operand of the code
abbrev pub as_operand : code_operand.Operand → Operand
as_operand operands.Pushed = items.pushed
as_operand (operands.Number n) = items.number n
as_operand (operands.Variable x) = items.variable x

-- several of them
abbrev pub as_operands : List code_operand.Operand → List Operand
as_operands os = map as_operand os

-- where the code says that a word goes
abbrev pub as_destination : code_destination.Destination → Destination
as_destination destinations.Push = items.push
as_destination (destinations.Into x) = items.into x
as_destination destinations.Aside = items.aside
as_destination destinations.Nowhere = items.nowhere

-- a test of the code
abbrev pub as_test : code_test.Test → Test
as_test tests.IsZero = items.is_zero
as_test tests.Less = items.less
as_test tests.Greater = items.greater
as_test tests.Same = items.same

-- an item of the code
abbrev pub item_of : code.Item → Item
item_of (variants.Move o d) = items.move (as_operand o) (as_destination d)
item_of (variants.Prefix op o d) = items.apply_prefix op (as_operand o) (as_destination d)
item_of (variants.Operate op a b d) =
    items.operate op (as_operand a) (as_operand b) (as_destination d)
item_of (variants.OperateAside op o d) = items.operate_aside op (as_operand o) (as_destination d)
item_of (variants.Step op x d) = items.step op x (as_destination d)
item_of (variants.Entry width a o d) = items.entry width a (as_operand o) (as_destination d)
item_of (variants.EntryAside width a d) = items.entry_aside width a (as_destination d)
item_of (variants.AssignEntry width a o q d) =
    items.assign_entry width a (as_operand o) (as_operand q) (as_destination d)
item_of (variants.AssignEntryAside width a o q d) =
    items.assign_entry_aside width a (as_operand o) (as_operand q) (as_destination d)
item_of (variants.Relative r o d) = items.relative r (as_operand o) (as_destination d)
item_of (variants.Property o p d) = items.property (as_operand o) p (as_destination d)
item_of (variants.PropertySize o p d) = items.property_size (as_operand o) p (as_destination d)
item_of (variants.PropertyWord p o i d) = items.property_word p (as_operand o) (as_operand i) (as_destination d)
item_of (variants.AssignProperty p o w d) =
    items.assign_property p (as_operand o) (as_operand w) (as_destination d)
item_of (variants.AssignPropertyWord p o i w d) =
    items.assign_property_word p (as_operand o) (as_operand i) (as_operand w) (as_destination d)
item_of (variants.Give o changes) = items.give (as_operand o) changes.items
item_of (variants.MoveObject o into) = items.move_object (as_operand o) (as_operand into)
item_of (variants.RemoveObject o) = items.remove_object (as_operand o)
item_of (variants.Keep x) = items.keep x
item_of variants.FirstEqual = items.first_equal
item_of variants.AlsoEqual = items.also_equal
item_of variants.DropBelow = items.drop_below
item_of (variants.PrintText bytes) = items.print_text bytes.now
item_of (variants.PrintCharacter o) = items.print_character (as_operand o)
item_of (variants.PrintNumber o) = items.print_number (as_operand o)
item_of (variants.PrintName o) = items.print_name (as_operand o)
item_of variants.NewLine = items.new_line
item_of (variants.Read t p) = items.read_line t p
item_of variants.Quit = items.quit
item_of (variants.Branch test os when target) =
    items.branch (as_test test) (as_operands os.items) when target
item_of (variants.IsIn o q when target) = items.is_in (as_operand o) (as_operand q) when target
item_of (variants.Has o a when target) = items.has (as_operand o) a when target
item_of (variants.Provides o p when target) = items.provides (as_operand o) p when target
item_of (variants.FirstObject x target) = items.first_object x target
item_of (variants.NextObject x target) = items.next_object x target
item_of (variants.Case test ns when target) = items.case (as_test test) ns.items when target
item_of (variants.Jump target) = items.jump target
item_of (variants.Back target) = items.back target
item_of (variants.BranchBack test os when target) =
    items.branch_back (as_test test) (as_operands os.items) when target
item_of (variants.Call r os d) = items.call r (as_operands os.items) (as_destination d)
item_of (variants.CallAside r os d) = items.call_aside r (as_operands os.items) (as_destination d)
item_of (variants.Return o) = items.return (as_operand o)

-- a routine of the code
abbrev pub items_of : List code.Item → List Item
items_of xs = map item_of xs
