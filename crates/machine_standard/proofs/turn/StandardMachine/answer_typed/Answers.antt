use Rattle.std.proofs.Common.{◌≡◌, ◌∙◌, List, ℕ, refl, ap, arith, slice_index, length, drop, take}
use Rattle.std.proofs.lemmas.List.{length-drop}
use Rattle.zcore_versions.specs.Machine.{any}
use Rattle.machine_frames.proofs.Steps.{goes_on_after, given_up_after}
use Rattle.machine_frames.specs.States.{standard_state_of}
use Rattle.machine.proofs.Turning.{ends_after, ends_given_up, front_with}
use Rattle.machine_standard_windows.proofs.TurnTexts.{keeps_begun}
use Rattle.machine_standard.specs.Loads.{story_of}
use Rattle.machine_standard.specs.Playing.{any_waited}
use Rattle.machine_standard.proofs.Answering.{answers_on, answers_stop, at_start, given_waits}
use Rattle.machine_standard.proofs.Drawings.{answers_drawing, drawn_from, stops_drawing}
use Rattle.machine_standard.proofs.Scripted.{answers_script, scripted_from, stops_script}
use Rattle.machine_standard.proofs.Whole.{ends_at_front, front_kept, keeps_at, store_goes_on, stopped_standard, turns_at}
use Rattle.machine_picture.specs.Represented.{styles_of}
use Rattle.machine_standard.proofs.StyledTurns.{answers_styles, asked, begun_as, stops_styles, styled_from}
use Rattle.machine_standard.proofs.turn.StandardMachine.answer_typed.Goals as goal

pub play-requires-clause-store : goal.play-requires-clause-store
play-requires-clause-store c =
    let w = c.requires.waiting in
    store_goes_on c.requires.store (c.in-Ok.ensures.told w.pending w.waits).told.0

pub play-requires-clause-text : goal.play-requires-clause-text
play-requires-clause-text c =
    let start : length c.args.text.now.items ≡ c.len-start.result = omega arith in
    keeps_begun (keeps_at _ _ _ _ start c.give.ensures.text)

pub end_given-requires : goal.end_given-requires
end_given-requires c =
    let w = c.requires.waiting in
    (rw c.in-Err-Stop.field-0-is at (c.in-Err-Stop.ensures.told w.pending w.waits)).told.0.sound

pub returns-in-Ok-clause-ends : goal.returns-in-Ok-clause-ends
returns-in-Ok-clause-ends c =
    let w = c.requires.waiting in
    let given = c.in-Ok.ensures.told w.pending w.waits in
    let start : c.len-start.result ≡ length c.args.text.now.items = omega arith in
    let front = front_kept c.args.text.now.items c.give.new.text.items c.give.ensures.text in
    let played = ends_at_front _ c.len-start.result c.args.text.now.items c.give.new.text.items start front
    (rw c.standard_state-dice.ensures at c.play.ensures.ends) in
    ends_after _ given.told.0
    (answers_on (story_of c.args.self.now) _ _ c.args.kept.now c.args.store.now.store c.give.new.store.store _ w.pending
    c.in-Ok.first (drop (length c.args.text.now.items) c.give.new.text.items) _ w.waits
    (at_start (any_waited (story_of c.args.self.now) w.pending c.args.line.now c.args.fuel) c.args.store.now.store
    c.args.text.now.items _ given.told.1)
    (turns_at (any (story_of c.args.self.now)) c.give.new.store.store _ c.args.kept.now c.in-Ok.first _ c.play.result
    c.len-start.result c.args.text.now.items c.give.new.text.items start played.whole)) played

pub returns-in-Err-Memory-clause-ends : goal.returns-in-Err-Memory-clause-ends
returns-in-Err-Memory-clause-ends c =
    let w = c.requires.waiting in
    ends_given_up _ _ refl (rw c.in-Err-Memory.field-0-is at (c.in-Err-Memory.ensures.told w.pending w.waits)).told
    (front_kept _ _ c.give.ensures.text)

pub returns-in_err-end_given-in-Err-Stop-clause-ends : goal.returns-in_err-end_given-in-Err-Stop-clause-ends
returns-in_err-end_given-in-Err-Stop-clause-ends c =
    let w = c.requires.waiting in
    let given = rw c.in-Err-Stop.field-0-is at (c.in-Err-Stop.ensures.told w.pending w.waits) in
    let e = c.in_err-end_given-in-Err-Stop.ensures in
    ends_given_up _ _ c.from_residual.ensures.1 (given_up_after given.told.0 e.given_up)
    (ap (take (length c.args.text.now.items)) e.same ∙ front_kept _ _ c.give.ensures.text)

pub returns-in_ok-end_given-in-Err-Stop-clause-ends : goal.returns-in_ok-end_given-in-Err-Stop-clause-ends
returns-in_ok-end_given-in-Err-Stop-clause-ends c =
    let w = c.requires.waiting in
    let given = rw c.in-Err-Stop.field-0-is at (c.in-Err-Stop.ensures.told w.pending w.waits) in
    let e = c.in_ok-end_given-in-Err-Stop.ensures in
    let b = standard_state_of (slice_index c.args.store.now.store.cells) in
    let n = length c.args.text.now.items in
    let text : List ℕ = drop n c.give.new.text.items in
    let told = at_start (any_waited (story_of c.args.self.now) w.pending c.args.line.now c.args.fuel)
    c.args.store.now.store c.args.text.now.items _ given.told.1 in
    record {
      whole = answers_stop (story_of c.args.self.now) _ c.args.kept.now c.args.store.now.store c.give.new.store.store
          c.args.fuel _ w.pending _ text _ w.waits told c.program_counter.ensures
          (stopped_standard c.give.new.store.store c.end_given.new.store.store b c.args.kept.now c.args.fuel _ _ n
          c.give.new.text.items c.end_given.new.text.items c.give.ensures.text.begun e.kept.1 e.kept.2
          (e.standard_state ∙ c.standard_state-dice.ensures) e.text);
      waits = λ waits. given_waits (story_of c.args.self.now) w.pending _ text _ _ c.give.new.store.store
          c.end_given.new.store.store _ told e.kept.1 waits;
      goes_on = goes_on_after given.told.0 e.kept.0;
      given_up = tt;
      front = front_with _ _ _ _ (front_kept _ _ c.give.ensures.text) c.give.ensures.text.begun e.text;
    }

pub returns-in-Ok-clause-drawing : goal.returns-in-Ok-clause-drawing
returns-in-Ok-clause-drawing c =
    let w = c.requires.waiting in
    let given = c.in-Ok.ensures.told w.pending w.waits in
    let text = c.args.text.now.items in
    let start : c.len-start.result ≡ length text = omega arith in
    answers_drawing c.play.result (story_of c.args.self.now) c.args.line.now c.args.kept.now c.args.store.now.store
    c.give.new.store.store c.args.fuel w.pending _ c.in-Ok.first (drop (length text) c.give.new.text.items)
    c.args.drawing.now.items _ w.waits c.standard_state-dice.ensures
    (at_start (any_waited (story_of c.args.self.now) w.pending c.args.line.now c.args.fuel) c.args.store.now.store text _
    given.told.1)
    (drawn_from c.play.result (story_of c.args.self.now) _ c.args.kept.now c.in-Ok.first c.give.new.store.store
    c.len-start.result text c.give.new.text.items c.args.drawing.now.items _ start c.play.ensures.drawing)

pub returns-in_ok-end_given-in-Err-Stop-clause-drawing : goal.returns-in_ok-end_given-in-Err-Stop-clause-drawing
returns-in_ok-end_given-in-Err-Stop-clause-drawing c =
    let w = c.requires.waiting in
    let given = rw c.in-Err-Stop.field-0-is at (c.in-Err-Stop.ensures.told w.pending w.waits) in
    let text = c.args.text.now.items in
    stops_drawing (story_of c.args.self.now) c.args.line.now c.args.kept.now c.args.store.now.store
    c.give.new.store.store c.args.fuel w.pending _ (drop (length text) c.give.new.text.items) c.args.drawing.now.items _
    w.waits
    (at_start (any_waited (story_of c.args.self.now) w.pending c.args.line.now c.args.fuel) c.args.store.now.store text _
    given.told.1) refl

pub returns-in-Ok-clause-script : goal.returns-in-Ok-clause-script
returns-in-Ok-clause-script c =
    let w = c.requires.waiting in
    let given = c.in-Ok.ensures.told w.pending w.waits in
    let text = c.args.text.now.items in
    let start : c.len-start.result ≡ length text = omega arith in
    answers_script c.play.result (story_of c.args.self.now) c.args.line.now c.args.kept.now c.args.store.now.store
    c.give.new.store.store c.args.fuel w.pending _ c.in-Ok.first (drop (length text) c.give.new.text.items)
    c.args.script.now.items _ w.waits c.standard_state-dice.ensures
    (at_start (any_waited (story_of c.args.self.now) w.pending c.args.line.now c.args.fuel) c.args.store.now.store text _
    given.told.1) (c.requires.typed w.pending w.waits)
    (scripted_from c.play.result (story_of c.args.self.now) _ c.args.kept.now c.in-Ok.first c.give.new.store.store
    c.len-start.result text c.give.new.text.items c.args.script.now.items _ start c.play.ensures.script)

pub returns-in_ok-end_given-in-Err-Stop-clause-script : goal.returns-in_ok-end_given-in-Err-Stop-clause-script
returns-in_ok-end_given-in-Err-Stop-clause-script c =
    let w = c.requires.waiting in
    let given = rw c.in-Err-Stop.field-0-is at (c.in-Err-Stop.ensures.told w.pending w.waits) in
    let text = c.args.text.now.items in
    stops_script (story_of c.args.self.now) c.args.line.now c.args.kept.now c.args.store.now.store
    c.give.new.store.store c.args.fuel w.pending _ (drop (length text) c.give.new.text.items) _ w.waits
    (at_start (any_waited (story_of c.args.self.now) w.pending c.args.line.now c.args.fuel) c.args.store.now.store text _
    given.told.1) (c.requires.typed w.pending w.waits)

pub returns-in-Ok-clause-styles : goal.returns-in-Ok-clause-styles
returns-in-Ok-clause-styles c =
    let w = c.requires.waiting in
    let given = c.in-Ok.ensures.told w.pending w.waits in
    let text = c.args.text.now.items in
    let start : c.len-start.result ≡ length text = omega arith in
    asked c.play.result c.args.has_styles
    (λ h. answers_styles (story_of c.args.self.now) c.args.line.now c.args.kept.now c.args.store.now.store
    c.give.new.store.store c.args.fuel w.pending _ c.in-Ok.first (drop (length text) c.give.new.text.items)
    (styles_of c.args.styles.now).style _ w.waits c.standard_state-dice.ensures
    (at_start (any_waited (story_of c.args.self.now) w.pending c.args.line.now c.args.fuel) c.args.store.now.store text _
    given.told.1)
    (styled_from (story_of c.args.self.now) _ c.args.kept.now c.in-Ok.first c.give.new.store.store c.len-start.result text
    c.give.new.text.items (styles_of c.args.styles.now).style _ start h))
    c.play.ensures.styles

pub returns-in_ok-end_given-in-Err-Stop-clause-styles : goal.returns-in_ok-end_given-in-Err-Stop-clause-styles
returns-in_ok-end_given-in-Err-Stop-clause-styles c =
    let w = c.requires.waiting in
    let given = rw c.in-Err-Stop.field-0-is at (c.in-Err-Stop.ensures.told w.pending w.waits) in
    let text = c.args.text.now.items in
    let start : c.len-start.result ≡ length text = omega arith in
    let long = length-drop (length text) c.give.new.text.items in
    λ is. stops_styles (story_of c.args.self.now) c.args.line.now c.args.kept.now c.args.store.now.store
    c.give.new.store.store c.args.fuel w.pending _ (drop (length text) c.give.new.text.items)
    (styles_of c.args.styles.now).style _ w.waits
    (at_start (any_waited (story_of c.args.self.now) w.pending c.args.line.now c.args.fuel) c.args.store.now.store text _
    given.told.1)
    (c.in_ok-end_given-in-Err-Stop.ensures.styles is
    ∙ begun_as (styles_of c.args.styles.now).style _ (drop (length text) c.give.new.text.items) (omega (arith, start, long)))

pub overflow_sub-long : goal.overflow_sub-long
overflow_sub-long c = omega (arith, c.give.ensures.text.begun)
