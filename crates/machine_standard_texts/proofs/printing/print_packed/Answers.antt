use Rattle.machine_opcodes.proofs.Targets.{unpacked_is}
use Rattle.machine_standard_texts.proofs.Adding.{packed_told}
use Rattle.machine_standard_texts.proofs.printing.print_packed.Goals as goal

pub returns-clause-told : goal.returns-clause-told
returns-clause-told c =
    packed_told c.args.loaded.now c.args.here c.args.after c.args.packed _
    (unpacked_is c.args.header.now _ _ _ c.requires.store.headed c.unpacked-address.ensures.same)
    c.print_address.ensures.told
