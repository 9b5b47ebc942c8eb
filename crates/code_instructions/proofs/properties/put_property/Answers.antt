use Rattle.std.proofs.Common.{◌≡◌, ◌++◌, Bool, subst}
use Rattle.code_drafts.specs.Code.{as_operand, as_destination}
use Rattle.code_drafts.specs.Bytes.{bytes_of_all}
use Rattle.code_drafts.specs.Instructions.{result_in}
use Rattle.code_drafts.specs.Written.{addresses_of}
use Rattle.code_instructions.specs.ObjectCode.{property_value}
use Rattle.code_instructions.specs.Written.{objects_in, single_in}
use Rattle.code_instructions.proofs.ObjectTests.{found_joined}
use Rattle.code_instructions.proofs.properties.put_property.Goals as goal

pub returns-in_ok-put_value : goal.returns-in_ok-put_value
returns-in_ok-put_value c =
    let a = addresses_of c.args.addresses.now in
    let q = c.args.property in
    let r = result_in (as_destination c.args.destination) in
    let b1 = c.put_object.new.bytes.items in
    let b2 = c.put_value.new.bytes.items in
    found_joined a (objects_in c.args.sizes.now) (as_operand c.args.operand)
    (λ x. property_value a (single_in c.args.sizes.now q) x q r)
    c.args.bytes.now.items b1 b2 c.in-Some.object c.in_ok-put_object.ensures c.in-Some.ensures
    (subst (λ (s : Bool). b2 ≡ b1 ++ bytes_of_all (property_value a s c.in-Some.object q r))
    c.has_one_word-single.ensures c.in_ok-put_value.ensures)
