use Rattle.std.proofs.Common.{arith, drop, refl}
use Rattle.zcore_versions.specs.Machine.{any_step}
use Rattle.machine_frames.proofs.Steps.{goes_on_after, given_up_after, goes_on_still}
use Rattle.machine_standard_windows.specs.TurnState.{place}
use Rattle.machine_standard_windows.proofs.TurnTexts.{keeps_begun, keeps_still, keeps_after}
use Rattle.machine.proofs.Turning.{one_more, last_one, lighter_at}
use Rattle.machine_frames.specs.States.{state_of}
use Rattle.machine_picture.specs.Drawing.{picture_of}
use Rattle.machine_standard.specs.Loads.{story_of}
use Rattle.machine_standard.proofs.Drawings.{draws_end, leads_step}
use Rattle.machine_standard.proofs.Pictures.{leads_on, leads_still}
use Rattle.machine_standard.proofs.Scripting.{script_ends, script_on, script_slow, script_still}
use Rattle.machine_picture.specs.Represented.{styles_of}
use Rattle.machine_standard.proofs.StyledSteps.{styles_ends, styles_on, styles_slow, styles_still}
use Rattle.machine_standard.proofs.Whole.{store_goes_on, none_yet_by, reaches_by_on, stops_around}
use Rattle.machine_standard.proofs.turn.StandardMachine.run_styled.Goals as goal

pub steps-init : goal.steps-init
steps-init c = record {
  goes = goes_on_still _ c.requires.store.store.sound;
  keeps = keeps_still _ _ c.requires.text;
  reached = none_yet_by (any_step (story_of c.args.self.now)) (place c.args.turn.now c.args.first)
      (state_of c.args.store.now.store (drop c.args.start c.args.text.now.items));
  pictured = leads_still (story_of c.args.self.now) (place c.args.turn.now c.args.first)
      (state_of c.args.store.now.store (drop c.args.start c.args.text.now.items)) (picture_of c.args.picture.now);
  long = c.requires.long;
  styled = styles_still (story_of c.args.self.now) (place c.args.turn.now c.args.first)
      (state_of c.args.store.now.store (drop c.args.start c.args.text.now.items)) (styles_of c.args.styles.now);
  scripted = script_still (story_of c.args.self.now) (place c.args.turn.now c.args.first)
      (state_of c.args.store.now.store (drop c.args.start c.args.text.now.items)) c.args.script.now.items;
}

pub go_ahead-requires : goal.go_ahead-requires
go_ahead-requires c = store_goes_on c.requires.store c.steps.invariant.goes

pub step_styled-requires-clause-store : goal.step_styled-requires-clause-store
step_styled-requires-clause-store c = store_goes_on c.requires.store
    (goes_on_after c.steps.invariant.goes c.in_ok-at.ensures.passed.goes_on)

pub step_styled-requires-clause-text : goal.step_styled-requires-clause-text
step_styled-requires-clause-text c = keeps_begun c.steps.invariant.keeps

pub step_styled-requires-clause-long : goal.step_styled-requires-clause-long
step_styled-requires-clause-long c = c.steps.invariant.long

pub steps-smaller : goal.steps-smaller
steps-smaller c =
    omega (
      arith,
      lighter_at c.in_ok-at.at c.in-Ok.next c.go_ahead.new.store.store c.step_styled.new.store.store
          c.steps.text.items c.step_styled.new.text.items c.args.start c.args.start refl c.in-Ok.ensures.falls,
      c.in_ok-at.ensures.passed.lighter (drop c.args.start c.steps.text.items),
    )

pub steps-preserved : goal.steps-preserved
steps-preserved c =
    let does = any_step (story_of c.args.self.now) in
    record {
      goes = goes_on_after (goes_on_after c.steps.invariant.goes c.in_ok-at.ensures.passed.goes_on)
          c.in-Ok.ensures.told.told.0;
      keeps = keeps_after c.steps.invariant.keeps c.step_styled.ensures.text;
      reached = one_more does _ _ _ _ _ _ _ _ c.args.start c.args.start refl
          (reaches_by_on does _ _ _ _ _ _ _ _ c.steps.invariant.reached.1
          (c.in_ok-at.ensures.passed.reached c.steps.turn (drop c.args.start c.steps.text.items)).1)
          c.in-Ok.ensures.told;
      pictured = leads_on c.steps.invariant.pictured
          (leads_on
          (c.in_ok-at.ensures.passed.pictured c.steps.turn (drop c.args.start c.steps.text.items)
          (picture_of c.steps.picture))
          (leads_step (story_of c.args.self.now) c.steps.turn c.step_styled.new.turn c.in_ok-at.at c.in-Ok.next
          c.go_ahead.new.store c.step_styled.new.store c.steps.text.items c.step_styled.new.text.items c.args.start
          (picture_of c.steps.picture) (picture_of c.step_styled.new.picture) c.in-Ok.ensures.told
          c.in-Ok.ensures.picture));
      long = c.in-Ok.ensures.long;
      styled = styles_on c.steps.invariant.styled
          (styles_on
          (c.in_ok-at.ensures.passed.styled c.steps.turn (drop c.args.start c.steps.text.items) (styles_of c.steps.styles)
          c.steps.invariant.long)
          (styles_slow (story_of c.args.self.now) c.steps.turn c.step_styled.new.turn c.in_ok-at.at c.in-Ok.next
          c.go_ahead.new.store c.step_styled.new.store c.steps.text.items c.step_styled.new.text.items c.args.start
          (styles_of c.steps.styles) (styles_of c.step_styled.new.styles) c.in-Ok.ensures.told c.in-Ok.ensures.styles));
      scripted = script_on c.steps.invariant.scripted
          (script_on
          (c.in_ok-at.ensures.passed.scripted c.steps.turn (drop c.args.start c.steps.text.items) c.steps.script.items)
          (script_slow (story_of c.args.self.now) c.steps.turn c.step_styled.new.turn c.in_ok-at.at c.in-Ok.next
          c.go_ahead.new.store c.step_styled.new.store c.steps.text.items c.step_styled.new.text.items c.args.start
          c.steps.script.items c.step_styled.new.script.items c.in-Ok.ensures.told c.in-Ok.ensures.script));
    }

pub returns-in-Err-Memory-clause-given_up : goal.returns-in-Err-Memory-clause-given_up
returns-in-Err-Memory-clause-given_up c = given_up_after
    (goes_on_after c.steps.invariant.goes c.in_ok-at.ensures.passed.goes_on)
    (rw c.in-Err-Memory.field-0-is at c.in-Err-Memory.ensures.told).told

pub returns-in-Err-Memory-clause-text : goal.returns-in-Err-Memory-clause-text
returns-in-Err-Memory-clause-text c =
    keeps_after c.steps.invariant.keeps c.step_styled.ensures.text

pub returns-in-Err-Stop-clause-stops : goal.returns-in-Err-Stop-clause-stops
returns-in-Err-Stop-clause-stops c =
    let does = any_step (story_of c.args.self.now) in
    stops_around (story_of c.args.self.now) c.steps.turn c.step_styled.new.turn
    (rw c.in-Err-Stop.field-0-is at c.in-Err-Stop.ensures.turn)
    (last_one does _ _ _ _ _ _ _ _ c.args.start c.args.start refl
    (reaches_by_on does _ _ _ _ _ _ _ _ c.steps.invariant.reached.1
    (c.in_ok-at.ensures.passed.reached c.steps.turn (drop c.args.start c.steps.text.items)).1)
    (rw c.in-Err-Stop.field-0-is at c.in-Err-Stop.ensures.told))

pub returns-in-Err-Stop-clause-draws : goal.returns-in-Err-Stop-clause-draws
returns-in-Err-Stop-clause-draws c =
    draws_end (story_of c.args.self.now) (place c.args.turn.now c.args.first) c.steps.turn c.in_ok-at.at _
    (state_of c.args.store.now.store (drop c.args.start c.args.text.now.items)) c.go_ahead.new.store
    c.step_styled.new.store c.steps.text.items c.step_styled.new.text.items c.args.start (picture_of c.args.picture.now)
    (picture_of c.steps.picture) (picture_of c.step_styled.new.picture)
    (leads_on c.steps.invariant.pictured
    (c.in_ok-at.ensures.passed.pictured c.steps.turn (drop c.args.start c.steps.text.items)
    (picture_of c.steps.picture)))
    (rw c.in-Err-Stop.field-0-is at c.in-Err-Stop.ensures.told).told
    (rw c.in-Err-Stop.field-0-is at c.in-Err-Stop.ensures.picture)

pub returns-in-Err-Stop-clause-script : goal.returns-in-Err-Stop-clause-script
returns-in-Err-Stop-clause-script c =
    script_ends (story_of c.args.self.now) (place c.args.turn.now c.args.first) c.steps.turn c.in_ok-at.at _
    (state_of c.args.store.now.store (drop c.args.start c.args.text.now.items)) c.go_ahead.new.store
    c.step_styled.new.store c.steps.text.items c.step_styled.new.text.items c.args.start c.args.script.now.items
    c.steps.script.items c.step_styled.new.script.items
    (script_on c.steps.invariant.scripted
    (c.in_ok-at.ensures.passed.scripted c.steps.turn (drop c.args.start c.steps.text.items) c.steps.script.items))
    (rw c.in-Err-Stop.field-0-is at c.in-Err-Stop.ensures.told).told
    (rw c.in-Err-Stop.field-0-is at c.in-Err-Stop.ensures.script)

pub returns-in-Err-Stop-clause-goes_on : goal.returns-in-Err-Stop-clause-goes_on
returns-in-Err-Stop-clause-goes_on c = goes_on_after
    (goes_on_after c.steps.invariant.goes c.in_ok-at.ensures.passed.goes_on)
    (rw c.in-Err-Stop.field-0-is at c.in-Err-Stop.ensures.told).told.0

pub returns-in-Err-Stop-clause-text : goal.returns-in-Err-Stop-clause-text
returns-in-Err-Stop-clause-text c =
    keeps_after c.steps.invariant.keeps c.step_styled.ensures.text

pub returns-in-Err-Stop-clause-styles : goal.returns-in-Err-Stop-clause-styles
returns-in-Err-Stop-clause-styles c =
    styles_ends (story_of c.args.self.now) (place c.args.turn.now c.args.first) c.steps.turn c.step_styled.new.turn
    c.in_ok-at.at _ (state_of c.args.store.now.store (drop c.args.start c.args.text.now.items)) c.go_ahead.new.store
    c.step_styled.new.store c.steps.text.items c.step_styled.new.text.items c.args.start (styles_of c.args.styles.now)
    (styles_of c.steps.styles) (styles_of c.step_styled.new.styles)
    (styles_on c.steps.invariant.styled
    (c.in_ok-at.ensures.passed.styled c.steps.turn (drop c.args.start c.steps.text.items) (styles_of c.steps.styles)
    c.steps.invariant.long))
    (rw c.in-Err-Stop.field-0-is at c.in-Err-Stop.ensures.told).told
    (rw c.in-Err-Stop.field-0-is at c.in-Err-Stop.ensures.styles)
