-- Slips of stories that players in use forgive, and this machine too (Z-Machine Standards Document 1.1, sections 12.3 and
-- 15, `get_prop` and `put_prop`). In the profile an attribute past the greatest is M8, and a value of a property of more
-- than two bytes is M9.
use Rattle.std.specs.Prelude.{◌==◌, ◌%◌, ℕ, nat_le, Bool, true, false, if◌then◌else◌, List, Option, Some, None}
use Rattle.zcore.specs.declared.instruction.Branch.{Branch}
use Rattle.zcore.specs.declared.instruction.Operation.{Operation}
use Rattle.zcore.specs.declared.instruction.Operation.TheVariants.{TestAttribute, SetAttribute, ClearAttribute}
use Rattle.zcore.specs.declared.instruction.Operation.TheVariants.{GetProperty, PutProperty}
use Rattle.zcore.specs.declared.next.Next.{Next}
use Rattle.zcore.specs.declared.place.Fault.TheVariants as faults
use Rattle.zcore.specs.Effects.{give_result}
use Rattle.zcore.specs.Execution.{first, second, third}
use Rattle.zcore.specs.Header.{defaults_of}
use Rattle.zcore.specs.Layout.{attribute_count}
use Rattle.zcore.specs.ObjectProperties.{default_place, tested_property}
use Rattle.zcore.specs.Objects.{test_object}
use Rattle.zcore.specs.Parts.{fault, goes_on, branch_on, read_byte, read_word, write_byte, write_word}
use Rattle.zcore.specs.Properties.{Property}
use Rattle.zcore.specs.State.{State, Out, ◌>>=◌}

-- The value of a property, or the default of one that is not there. Of more than two bytes it is the first word.
unfoldable pub first_word : ℕ → Option Property → State → Out ℕ
first_word number None s = read_word (default_place (defaults_of s.memory) number) s
first_word number (Some p) s = if p.size == 1 then read_byte p.address s else read_word p.address s

unfoldable pub write_first_word : Option Property → ℕ → State → Out (Unit {0})
write_first_word None word = fault faults.Property
write_first_word (Some p) word =
    if p.size == 1 then write_byte p.address (word % 256) else write_word p.address word

-- get_prop
unfoldable pub get_any_property : Next → ℕ → Option ℕ → ℕ → ℕ → State → Out Next
get_any_property here after result object number = do
  found ← tested_property object number
  word ← first_word number found
  give_result here after result word

-- put_prop
unfoldable pub put_any_property : Next → ℕ → ℕ → ℕ → ℕ → State → Out Next
put_any_property here after object number word = do
  found ← tested_property object number
  _ ← write_first_word found word
  goes_on after here.fuel

-- test_attr, set_attr and clear_attr, where the attribute is past the greatest: it is clear, and stays so
unfoldable pub test_no_attribute : Next → ℕ → Option Branch → ℕ → State → Out Next
test_no_attribute here after branch object = do
  _ ← test_object object
  branch_on here after branch false

unfoldable pub change_no_attribute : Next → ℕ → ℕ → State → Out Next
change_no_attribute here after object = do
  _ ← test_object object
  goes_on after here.fuel

-- the operations, on values with which a slip can be forgiven
abbrev pub may_be_forgiven : Operation → List ℕ → Bool
may_be_forgiven TestAttribute values = nat_le attribute_count (second values)
may_be_forgiven SetAttribute values = nat_le attribute_count (second values)
may_be_forgiven ClearAttribute values = nat_le attribute_count (second values)
may_be_forgiven GetProperty values = true
may_be_forgiven PutProperty values = true
may_be_forgiven _ values = false

-- such an operation
unfoldable pub perform_forgiving : Operation → Next → ℕ → Option ℕ → Option Branch → List ℕ → State → Out Next
perform_forgiving TestAttribute here after result branch values = test_no_attribute here after branch (first values)
perform_forgiving GetProperty here after result branch values = get_any_property here after result
    (first values) (second values)
perform_forgiving PutProperty here after result branch values = put_any_property here after
    (first values) (second values) (third values)
perform_forgiving operation here after result branch values = change_no_attribute here after (first values)
