use Rattle.std.proofs.Common.{ap, arith, length, Some, ◌∙◌}
use Rattle.zcore_standard.specs.Operations.{further_at}
use Rattle.zcore_versions.specs.Operations.{older_at}
use Rattle.zcore_versions.specs.Versions.{versioned}
use Rattle.machine_frames.specs.Contents.{memory_of}
use Rattle.machine_frames.specs.States.{state_of}
use Rattle.machine_standard_windows.specs.TurnState.{place}
use Rattle.machine_picture.specs.Represented.{styles_of}
use Rattle.machine_picture.specs.Styles.{added}
use Rattle.machine_styling.proofs.Choosing.{further_named}
use Rattle.machine_styling.proofs.Stepping.{before_as}
use Rattle.machine_styling.proofs.Storing.{long_memory}
use Rattle.machine_styling.proofs.before.before_operation.Goals as goal

pub added_by-added-requires : goal.added_by-added-requires
added_by-added-requires c =
    omega (
      arith,
      ap length (c.memory.ensures ∙ ap memory_of c.store.ensures),
      long_memory c.args.store.now.store c.requires.store.sound,
    )

pub change_of-requires-clause-found : goal.change_of-requires-clause-found
change_of-requires-clause-found c is =
    further_named (older_at c.args.version (memory_of c.args.store.now.store) c.args.here.program_counter)
    (further_at (memory_of c.args.store.now.store) c.args.here.program_counter)
    (c.requires.named ∙ ap Some is)

pub returns-in-Ok-clause-before : goal.returns-in-Ok-clause-before
returns-in-Ok-clause-before c loaded =
    before_as (Some c.args.operation) (versioned loaded c.args.version) (place c.args.turn.now c.args.here)
    (state_of c.args.store.now.store c.args.text.now) (styles_of c.args.styles.now).style _ c.requires.named
    (c.added_by-added.ensures
    ∙ ap (λ m. added c.args.version.number (Some c.args.operation) m (styles_of c.args.styles.now).style)
    (c.memory.ensures ∙ ap memory_of c.store.ensures))
    c.in-Ok.ensures.change
