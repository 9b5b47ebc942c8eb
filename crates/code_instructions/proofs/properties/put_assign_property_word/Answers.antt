use Rattle.std.proofs.Common.{◌≡◌, ◌++◌, List, subst}
use Rattle.zcore.specs.declared.instruction.Operand.{Operand}
use Rattle.zcore.specs.Instruction.{Instruction}
use Rattle.code_drafts.specs.Code.{as_operand, as_destination}
use Rattle.code_drafts.specs.Instructions.{pulled_into, word_in}
use Rattle.code_drafts.specs.Bytes.{bytes_of_all}
use Rattle.code_drafts.specs.Written.{addresses_of}
use Rattle.code_instructions.specs.ObjectCode.{at_object, assigned_takes, assigned_at}
use Rattle.code_instructions.specs.Written.{objects_in}
use Rattle.code_drafts.proofs.Chains.{three_joined}
use Rattle.code_instructions.proofs.ObjectTests.{found_joined}
use Rattle.code_instructions.proofs.properties.put_assign_property_word.Goals as goal

pub returns-in_ok-put_assigned_word : goal.returns-in_ok-put_assigned_word
returns-in_ok-put_assigned_word c =
    let a = addresses_of c.args.addresses.now in
    let n = objects_in c.args.sizes.now in
    let o = as_operand c.args.words.0 in
    let q = c.args.property in
    let i = word_in 4 (as_operand c.args.words.1) in
    let w = word_in 1 (as_operand c.args.words.2) in
    let d = as_destination c.args.destination in
    let act : Operand → List Instruction = λ x. assigned_at a x q i w d in
    let b0 = c.args.bytes.now.items in
    let b1 = c.put_pulled.new.bytes.items in
    let b2 = c.put_pulled-2.new.bytes.items in
    let b3 = c.put_object.new.bytes.items in
    let b4 = c.put_assigned_word.new.bytes.items in
    three_joined (assigned_takes (as_operand c.args.words.2)) (pulled_into 4 (as_operand c.args.words.1))
    (at_object a n o act) b0 b1 b2 b4 c.in_ok-put_pulled.ensures c.in_ok-put_pulled-2.ensures
    (found_joined a n o act b2 b3 b4 c.in-Some.object c.in_ok-put_object.ensures c.in-Some.ensures
    (subst (λ (k : Operand). b4 ≡ b3 ++ bytes_of_all (assigned_at a c.in-Some.object q i k d))
    c.word_in-in-Some.ensures
    (subst (λ (j : Operand). b4 ≡ b3 ++ bytes_of_all (assigned_at a c.in-Some.object q j c.word_in-in-Some.result d))
    c.word_in.ensures c.in_ok-put_assigned_word.ensures)))
