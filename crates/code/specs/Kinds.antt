-- What an item is about.
use Rattle.code_drafts.specs.Items.{Item}
use Rattle.code_drafts.specs.Items as items
use Rattle.code.specs.declared.kind.Kind.{Kind}
use Rattle.code.specs.declared.kind.Kind.TheVariants.{Words, Printing, Tree, Properties, ByObject, Flow}

-- what an item is about
abbrev pub kind_of : Item → Kind
kind_of (items.move o d) = Words
kind_of (items.apply_prefix op o d) = Words
kind_of (items.operate op x y d) = Words
kind_of (items.operate_aside op x d) = Words
kind_of (items.step op x d) = Words
kind_of (items.entry width n o d) = Words
kind_of (items.entry_aside width n d) = Words
kind_of (items.assign_entry width n o q d) = Words
kind_of (items.assign_entry_aside width n o q d) = Words
kind_of (items.keep x) = Words
kind_of items.first_equal = Words
kind_of items.also_equal = Words
kind_of items.drop_below = Words
kind_of (items.print_text bytes) = Printing
kind_of (items.print_character o) = Printing
kind_of (items.print_number o) = Printing
kind_of (items.print_name o) = Printing
kind_of items.new_line = Printing
kind_of (items.relative r o d) = Tree
kind_of (items.give o changes) = Tree
kind_of (items.move_object o into) = Tree
kind_of (items.remove_object o) = Tree
kind_of (items.property o q d) = Properties
kind_of (items.property_size o q d) = Properties
kind_of (items.property_word q o i d) = Properties
kind_of (items.assign_property q o w d) = Properties
kind_of (items.assign_property_word q o i w d) = Properties
kind_of (items.is_in o q when target) = ByObject
kind_of (items.has o n when target) = ByObject
kind_of (items.provides o q when target) = ByObject
kind_of (items.first_object x target) = ByObject
kind_of (items.next_object x target) = ByObject
kind_of (items.read_line t q) = Flow
kind_of items.quit = Flow
kind_of (items.branch test os when target) = Flow
kind_of (items.case test ns when target) = Flow
kind_of (items.jump target) = Flow
kind_of (items.back target) = Flow
kind_of (items.branch_back test os when target) = Flow
kind_of (items.call r os d) = Flow
kind_of (items.call_aside r os d) = Flow
kind_of (items.return o) = Flow
