use Rattle.std.proofs.Common.{◌++◌, [], ◌∷◌}
use Rattle.zcore.specs.declared.instruction.Operand.TheVariants.{Variable}
use Rattle.zcore.specs.declared.instruction.Operation.TheVariants.{InsertObject}
use Rattle.code_drafts.specs.Code.{as_operand}
use Rattle.code_drafts.specs.Instructions.{plain, store, temporary}
use Rattle.code_drafts.specs.Written.{addresses_of}
use Rattle.code_instructions.specs.ObjectCode.{climbing}
use Rattle.code_instructions.specs.Written.{objects_in}
use Rattle.code_instructions.proofs.ObjectTests.{target_joined}
use Rattle.code_instructions.proofs.moves.put_moved_object.Goals as goal

pub returns-in_ok-put_moved : goal.returns-in_ok-put_moved
returns-in_ok-put_moved c =
    let a = addresses_of c.args.addresses.now in
    target_joined 1 a (objects_in c.args.sizes.now) (as_operand c.args.into)
    (λ y. climbing a y ++ plain InsertObject (Variable (temporary 2) ∷ y ∷ []) ∷ [])
    (store (temporary 2) c.args.object ∷ []) c.args.bytes.now.items c.put_kept.new.bytes.items
    c.put_tests.new.bytes.items c.put_moved.new.bytes.items c.in-Some.into c.in_ok-put_kept.ensures
    c.in_ok-put_tests.ensures c.in-Some.ensures c.in_ok-put_moved.ensures
