use Rattle.std.proofs.Common.{◌≡◌, ◌++◌, Bool, List, subst}
use Rattle.zcore.specs.declared.instruction.Operand.{Operand}
use Rattle.zcore.specs.Instruction.{Instruction}
use Rattle.code_drafts.specs.Code.{as_operand, as_destination}
use Rattle.code_drafts.specs.Instructions.{word_in}
use Rattle.code_drafts.specs.Bytes.{bytes_of_all}
use Rattle.code_drafts.specs.Written.{addresses_of}
use Rattle.code_instructions.specs.ObjectCode.{at_object, assigned_takes, assigned_single}
use Rattle.code_instructions.specs.Written.{objects_in, single_in}
use Rattle.code_drafts.proofs.Chains.{all_joined}
use Rattle.code_instructions.proofs.ObjectTests.{found_joined}
use Rattle.code_instructions.proofs.properties.put_assign_property.Goals as goal

pub returns-in_ok-put_assigned : goal.returns-in_ok-put_assigned
returns-in_ok-put_assigned c =
    let a = addresses_of c.args.addresses.now in
    let n = objects_in c.args.sizes.now in
    let o = as_operand c.args.words.0 in
    let q = c.args.property in
    let w = word_in 1 (as_operand c.args.words.1) in
    let d = as_destination c.args.destination in
    let single = single_in c.args.sizes.now q in
    let act : Operand → List Instruction = λ x. assigned_single a single x q w d in
    let b1 = c.put_pulled.new.bytes.items in
    let b2 = c.put_object.new.bytes.items in
    let b3 = c.put_assigned.new.bytes.items in
    all_joined (assigned_takes (as_operand c.args.words.1)) (at_object a n o act) c.args.bytes.now.items b1 b3
    c.in_ok-put_pulled.ensures
    (found_joined a n o act b1 b2 b3 c.in-Some.object c.in_ok-put_object.ensures c.in-Some.ensures
    (subst (λ (j : Operand). b3 ≡ b2 ++ bytes_of_all (assigned_single a single c.in-Some.object q j d))
    c.word_in-word.ensures
    (subst (λ (s : Bool). b3 ≡ b2 ++ bytes_of_all (assigned_single a s c.in-Some.object q c.word_in-word.result d))
    c.has_one_word-single.ensures c.in_ok-put_assigned.ensures)))
