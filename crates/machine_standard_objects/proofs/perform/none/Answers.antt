use Rattle.std.proofs.Common.{ℕ, [], ap, Option, None}
use Rattle.zcore.specs.declared.instruction.Branch.{Branch}
use Rattle.zcore.specs.Execution.{perform}
use Rattle.zcore_standard.specs.Printing.{is_text, perform_text}
use Rattle.machine_standard_objects.proofs.Performing.{known_told, text_told, is_several, no_flags, none_plain, without_none}
use Rattle.machine_standard_objects.proofs.Performing.{is_one_or_none, unforgiven}
use Rattle.machine_standard_objects.proofs.perform.none.Goals as goal

pub returns-in-Print-clause-told : goal.returns-in-Print-clause-told
unfolding perform perform_text
returns-in-Print-clause-told c =
    let e = c.in-Print.is in
    let none : Option ℕ = None in
    let stays : Option Branch = None in
    text_told c.args.loaded.now c.args.operation c.args.here c.args.after none stays [] _
    (without_none c.args.operation [] c.requires.count)
    (no_flags c.args.operation [] (ap is_several c.requires.count)) (ap is_text e) (rw e c.print_inline.ensures.told)

pub returns-in-PrintReturn-clause-told : goal.returns-in-PrintReturn-clause-told
unfolding perform perform_text
returns-in-PrintReturn-clause-told c =
    let e = c.in-PrintReturn.is in
    let none : Option ℕ = None in
    let stays : Option Branch = None in
    text_told c.args.loaded.now c.args.operation c.args.here c.args.after none stays [] _
    (without_none c.args.operation [] c.requires.count)
    (no_flags c.args.operation [] (ap is_several c.requires.count)) (ap is_text e) (rw e c.print_return.ensures.told)

pub returns-in_default-clause-told : goal.returns-in_default-clause-told
returns-in_default-clause-told c =
    let none : Option ℕ = None in
    let stays : Option Branch = None in
    known_told c.args.loaded.now c.args.operation c.args.here c.args.after none stays [] _
    (without_none c.args.operation [] c.requires.count)
    (no_flags c.args.operation [] (ap is_several c.requires.count))
    (unforgiven c.args.operation [] (ap is_one_or_none c.requires.count))
    (none_plain c.args.operation c.requires.count c.in_default.not-Print c.in_default.not-PrintReturn)
    c.perform_none.ensures.told
