use Rattle.std.proofs.Common.{ap, sym, arith, length, refl, None, ◌∙◌}
use Rattle.zcore_standard.specs.Operations.{further_at}
use Rattle.zcore_versions.specs.Operations.{older_at}
use Rattle.zcore_versions.specs.Versions.{versioned}
use Rattle.machine_frames.specs.Contents.{memory_of}
use Rattle.machine_frames.specs.States.{state_of}
use Rattle.machine_picture.specs.Picture.{by_name}
use Rattle.machine_standard_windows.specs.TurnState.{place}
use Rattle.machine_picture.specs.Represented.{styles_of}
use Rattle.machine_picture.specs.Styles.{printed}
use Rattle.machine_styling.proofs.Stepping.{before_as}
use Rattle.machine_styling.proofs.Storing.{long_memory}
use Rattle.machine_styling.proofs.before.before_step.Goals as goal

pub named_at-requires : goal.named_at-requires
named_at-requires c = omega (arith, ap length (c.memory-memory.ensures ∙ ap memory_of c.store.ensures), c.requires.sound.short)

pub printed-requires : goal.printed-requires
printed-requires c =
    omega (
      arith,
      ap length (c.memory-memory.ensures ∙ ap memory_of c.store.ensures),
      long_memory c.args.store.now.store c.requires.sound,
    )

pub before_operation-requires-clause-named : goal.before_operation-requires-clause-named
before_operation-requires-clause-named c =
    sym (ap (λ m. by_name (older_at c.args.version m c.args.here.program_counter) (further_at m c.args.here.program_counter))
    (c.memory-memory.ensures ∙ ap memory_of c.store.ensures))
    ∙ sym c.in-Some.ensures

pub returns-in-None-clause-before : goal.returns-in-None-clause-before
returns-in-None-clause-before c loaded =
    let memory = c.memory-memory.ensures ∙ ap memory_of c.store.ensures in
    before_as None (versioned loaded c.args.version) (place c.args.turn.now c.args.here)
    (state_of c.args.store.now.store c.args.text.now) (styles_of c.args.styles.now).style _
    (sym (ap (λ m. by_name (older_at c.args.version m c.args.here.program_counter) (further_at m c.args.here.program_counter))
    memory)
    ∙ sym c.in-None.ensures)
    (c.printed.ensures ∙ ap (λ m. printed c.args.version.number m (styles_of c.args.styles.now).style) memory) refl

pub returns-in-Some-clause-before : goal.returns-in-Some-clause-before
returns-in-Some-clause-before c = c.before_operation.ensures.before
