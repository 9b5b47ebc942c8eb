use Rattle.std.proofs.Common.{◌≡◌, ◌++◌, List, subst}
use Rattle.zcore.specs.declared.instruction.Operand.{Operand}
use Rattle.zcore.specs.Instruction.{Instruction}
use Rattle.code_drafts.specs.Code.{as_operand, as_destination}
use Rattle.code_drafts.specs.Instructions.{result_in, word_in}
use Rattle.code_drafts.specs.Bytes.{bytes_of_all}
use Rattle.code_drafts.specs.Written.{addresses_of}
use Rattle.code_instructions.specs.ObjectCode.{at_object, assigned_takes, loaded_at}
use Rattle.code_instructions.specs.Written.{objects_in}
use Rattle.code_drafts.proofs.Chains.{all_joined}
use Rattle.code_instructions.proofs.ObjectTests.{found_joined}
use Rattle.code_instructions.proofs.properties.put_property_word.Goals as goal

pub returns-in_ok-put_word : goal.returns-in_ok-put_word
returns-in_ok-put_word c =
    let a = addresses_of c.args.addresses.now in
    let n = objects_in c.args.sizes.now in
    let o = as_operand c.args.words.0 in
    let q = c.args.property in
    let i = word_in 1 (as_operand c.args.words.1) in
    let r = result_in (as_destination c.args.destination) in
    let act : Operand → List Instruction = λ x. loaded_at a x q i r in
    let b1 = c.put_pulled.new.bytes.items in
    let b2 = c.put_object.new.bytes.items in
    let b3 = c.put_word.new.bytes.items in
    all_joined (assigned_takes (as_operand c.args.words.1)) (at_object a n o act) c.args.bytes.now.items b1 b3
    c.in_ok-put_pulled.ensures
    (found_joined a n o act b1 b2 b3 c.in-Some.object c.in_ok-put_object.ensures c.in-Some.ensures
    (subst (λ (j : Operand). b3 ≡ b2 ++ bytes_of_all (loaded_at a c.in-Some.object q j r)) c.word_in-index.ensures
    c.in_ok-put_word.ensures))
