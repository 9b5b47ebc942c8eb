use Rattle.std.proofs.Common.{drop, subst, List, ℕ}
use Rattle.machine_frames.specs.Contents.{memory_of}
use Rattle.machine_frames.specs.States.{state_of}
use Rattle.machine_picture.specs.Picture.{operation_at}
use Rattle.machine_standard_windows.specs.TurnState.{place}
use Rattle.machine_standard.specs.Loads.{story_of}
use Rattle.machine_standard.proofs.Scripting.{refused}
use Rattle.machine_standard.proofs.StyledTurns.{lent, restyled_long}
use Rattle.machine_picture.specs.Represented.{styles_of}
use Rattle.machine_styling.specs.Restyling.{Restyles}
use Rattle.machine_styling.proofs.Stepping.{fits}
use Rattle.machine_standard.proofs.turn.StandardMachine.step_before.Goals as goal

pub restyle-requires : goal.restyle-requires
restyle-requires c =
    fits (operation_at (story_of c.args.self.now) (memory_of c.args.store.now.store) c.args.here.program_counter)
    (place c.args.turn.now c.args.here) (state_of c.args.store.now.store (drop c.args.start c.args.text.now.items)) _ _
    c.requires.long c.requires.before.change

pub returns-in-Ok-clause-styles : goal.returns-in-Ok-clause-styles
returns-in-Ok-clause-styles c =
    let s = state_of c.args.store.now.store (drop c.args.start c.args.text.now.items) in
    subst (λ (l : List ℕ). Restyles c.step-done.result (story_of c.args.self.now) (place c.args.turn.now c.args.here) s
    c.step-done.new.turn l (styles_of c.args.styles.now) (styles_of c.restyle.new.styles))
    (lent c.args.start c.step-done.new.text.items c.deref.result.now c.deref.ensures.value)
    (c.in-Ok.ensures (story_of c.args.self.now) c.args.turn.now c.args.here s c.requires.before c.requires.long
    c.step-done.ensures.turn)

pub returns-in-Ok-clause-long : goal.returns-in-Ok-clause-long
returns-in-Ok-clause-long c =
    let s = state_of c.args.store.now.store (drop c.args.start c.args.text.now.items) in
    restyled_long c.step-done.result (story_of c.args.self.now) (place c.args.turn.now c.args.here) s c.step-done.new.turn
    (drop c.args.start c.step-done.new.text.items) (styles_of c.args.styles.now) (styles_of c.restyle.new.styles)
    (subst (λ (l : List ℕ). Restyles c.step-done.result (story_of c.args.self.now) (place c.args.turn.now c.args.here) s
    c.step-done.new.turn l (styles_of c.args.styles.now) (styles_of c.restyle.new.styles))
    (lent c.args.start c.step-done.new.text.items c.deref.result.now c.deref.ensures.value)
    (c.in-Ok.ensures (story_of c.args.self.now) c.args.turn.now c.args.here s c.requires.before c.requires.long
    c.step-done.ensures.turn))

-- memory for the styles was refused
pub returns-in-Err-clause-told : goal.returns-in-Err-clause-told
returns-in-Err-clause-told c = record {
  told = refused _ c.step-done.ensures.told
      (record {
        cells = c.abandon.ensures.cells;
        beginning = c.abandon.ensures.beginning;
        kept = c.abandon.ensures.kept;
        fixed = c.abandon.ensures.fixed;
      });
}
