use Rattle.machine_frames.proofs.Steps.{went_err}
use Rattle.machine_standard_saves.proofs.Resumed.{no_fuel, not_resumed, not_stored, resumed}
use Rattle.machine_standard_saves.proofs.restoring.resume.Goals as goal

pub returns-then-here-eq0 : goal.returns-then-here-eq0
returns-then-here-eq0 c = λ read are.
    no_fuel c.args.loaded.now _ _ c.args.here.fuel c.requires.store.sound c.if-here-eq0.true

pub returns-in_err-take_up : goal.returns-in_err-take_up
returns-in_err-take_up c = λ read are.
    went_err _ c.from_residual.ensures.1
    (not_resumed c.args.loaded.now _ c.args.here.fuel c.requires.store.sound c.if-here-eq0.false
    (c.in_err-take_up.ensures.went c.args.save.program_counter read are))

pub returns-in_err-store_result : goal.returns-in_err-store_result
returns-in_err-store_result c = λ read are.
    went_err _ c.from_residual-in_err-store_result.ensures.1
    (not_stored c.args.loaded.now _ c.args.here.fuel c.byte_at-variable.result c.requires.store.sound c.if-here-eq0.false
    (c.in_ok-take_up.ensures.went c.args.save.program_counter read are) c.byte_at-variable.ensures
    c.in_err-store_result.ensures)

pub returns : goal.returns
returns c = λ read are.
    resumed c.args.loaded.now _ c.args.here.fuel c.byte_at-variable.result c.requires.store.sound c.if-here-eq0.false
    (c.in_ok-take_up.ensures.went c.args.save.program_counter read are) c.byte_at-variable.ensures
    c.in_ok-store_result.ensures
