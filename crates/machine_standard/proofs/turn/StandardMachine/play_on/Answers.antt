use Rattle.std.proofs.Common.{◌≡◌, ◌-◌, ℕ, ap, ◌∙◌, length, take, subst, sym, arith, drop, refl, Ok}
use Rattle.std.proofs.lemmas.List.{length-drop, length-take-le}
use Rattle.journal.specs.Recording.{Recording}
use Rattle.zcore.specs.Turn.{TurnsBy}
use Rattle.zcore_standard.specs.Machine.{begins_after, keeping}
use Rattle.zcore_versions.specs.Machine.{any}
use Rattle.machine.specs.Ended.{TurnEndsBy}
use Rattle.machine_frames.specs.Contents.{Contents}
use Rattle.machine_picture.specs.Drawing.{picture_of}
use Rattle.machine_picture.specs.Picture.{picture_from}
use Rattle.machine_versions_words.specs.Taking.{CanBeGivenBy}
use Rattle.zcore_versions.specs.Machine.{any_step}
use Rattle.machine_frames.proofs.Steps.{goes_on_after, given_up_after}
use Rattle.machine_frames.specs.Playing.{StopsBy}
use Rattle.machine_frames.specs.States.{state_of}
use Rattle.machine.proofs.Turning.{ends_given_up}
use Rattle.machine_standard_windows.specs.TurnState.{place}
use Rattle.machine_standard_windows.proofs.TurnTexts.{keeps_begun, keeps_after, keeps_still}
use Rattle.machine_standard.specs.Loads.{story_of}
use Rattle.machine_standard.specs.Script.{Scripts}
use Rattle.machine_standard.proofs.Drawings.{draws_from}
use Rattle.machine_standard.proofs.Whole.{begun_place, ends_from, front_from, notice_after, standard_whole, standard_waits}
use Rattle.machine_picture.specs.Represented.{styles_of}
use Rattle.machine_standard.specs.Styled.{StylesFrom}
use Rattle.machine_standard.proofs.turn.StandardMachine.play_on.Goals as goal

pub overflow_cast-from : goal.overflow_cast-from
overflow_cast-from c = omega (arith, c.requires.text.within)

pub cut_to_shown-requires : goal.cut_to_shown-requires
cut_to_shown-requires c = keeps_begun c.run_on.ensures.text

pub end-requires : goal.end-requires
end-requires c = c.in_ok-here.ensures.goes_on.sound

pub returns-in_err-here-clause-ends : goal.returns-in_err-here-clause-ends
returns-in_err-here-clause-ends c = ends_given_up _ _ c.from_residual.ensures.1 c.in_err-here.ensures.given_up
    (front_from c.args.start c.args.text.now.items _ c.requires.text.begun c.run_on.ensures.text)

pub returns-in_err-end-clause-ends : goal.returns-in_err-end-clause-ends
returns-in_err-end-clause-ends c =
    let text = c.args.text.now.items in
    ends_given_up _ _ c.from_residual-in_err-end.ensures.1
    (given_up_after c.in_ok-here.ensures.goes_on c.in_err-end.ensures.given_up)
    (ap (take (length (take c.args.start text))) c.in_err-end.ensures.same
    ∙ front_from c.args.start text _ c.requires.text.begun (keeps_after c.run_on.ensures.text c.cut_to_shown.ensures.text))

-- memory for the picture of the turn before was refused
pub returns-in-Err-clause-ends : goal.returns-in-Err-clause-ends
returns-in-Err-clause-ends c =
    let text = c.args.text.now.items in
    ends_given_up _ _ refl
    (record {
      cells = c.abandon.ensures.cells;
      beginning = c.abandon.ensures.beginning;
      kept = c.abandon.ensures.kept;
      fixed = c.abandon.ensures.fixed;
    })
    (front_from c.args.start text text c.requires.text.begun (keeps_still _ _ c.requires.text))

-- memory for the text of the picture was refused
pub returns-in_err-put_drawing-clause-ends : goal.returns-in_err-put_drawing-clause-ends
returns-in_err-put_drawing-clause-ends c =
    let start = c.args.start in
    let all = keeps_after c.run_on.ensures.text c.cut_to_shown.ensures.text in
    ends_given_up _ _ c.from_residual-in_err-put_drawing.ensures.1
    (given_up_after (goes_on_after c.in_ok-here.ensures.goes_on c.in_ok-end.ensures.kept.0)
    c.in_err-put_drawing.ensures.given_up)
    (ap (λ (n : ℕ). take n c.end.new.text.items) (length-take-le start c.args.text.now.items c.requires.text.begun)
    ∙ notice_after start c.cut_to_shown.new.text.items _ _ all.begun c.in_ok-end.ensures.text ∙ all.front)

pub returns-clause-drawing : goal.returns-clause-drawing
returns-clause-drawing c =
    let start = c.args.start in
    let text = c.args.text.now.items in
    let from : c.len-long.result - start ≡ length text - start = omega arith in
    let begun = begun_place _ c.new-turn.result c.args.dice c.args.kept.now c.args.first c.new-turn.ensures.standard_state
    (c.new-turn.ensures.kept ∙ c.replace.ensures.value) c.new-turn.ensures.streams c.new-turn.ensures.upper
    ∙ ap (λ (n : ℕ). begins_after n c.args.dice c.args.kept.now c.args.first) from in
    let seen : c.len-long.result - start ≡ length (drop start text) = omega (arith, length-drop start text) in
    let first = c.in-Ok.ensures ∙ ap (λ d. picture_from d (c.len-long.result - start)) c.as_slice.ensures.value
    ∙ ap (picture_from c.args.drawing.now.items) seen in
    record {
      picture = picture_of c.run_on.new.picture;
      draws = draws_from (story_of c.args.self.now) _ _ (state_of c.args.store.now.store (drop start text)) _ _
          (picture_of c.run_on.new.picture) begun first c.in_ok-here.ensures.draws;
      told = c.in_ok-put_drawing.ensures.drawing;
    }

pub returns-clause-ends : goal.returns-clause-ends
returns-clause-ends c =
    let start = c.args.start in
    let text = c.args.text.now.items in
    let r = c.in_ok-here.ensures in
    let e = c.in_ok-end.ensures in
    let from : c.len-long.result - start ≡ length text - start = omega arith in
    let all = keeps_after c.run_on.ensures.text c.cut_to_shown.ensures.text in
    let stops = subst (λ first. StopsBy (any_step (story_of c.args.self.now)) first (state_of c.args.store.now.store (drop start text))
    (place c.run_on.new.turn c.in_ok-here.here) c.in_ok-here.place
    (state_of c.run_on.new.store.store (drop start c.run_on.new.text.items)))
    (begun_place _ _ c.args.dice c.args.kept.now c.args.first c.new-turn.ensures.standard_state
    (c.new-turn.ensures.kept ∙ c.replace.ensures.value) c.new-turn.ensures.streams c.new-turn.ensures.upper
    ∙ ap (λ (n : ℕ). begins_after n c.args.dice c.args.kept.now c.args.first) from) r.stops in
    subst (λ (m : Recording Contents). TurnEndsBy (CanBeGivenBy (story_of c.args.self.now))
    (λ whole. TurnsBy (any (story_of c.args.self.now))
    (begins_after (length text - start) c.args.dice c.args.kept.now c.args.first)
    (state_of c.args.store.now.store (drop start text)) (keeping c.run_on.new.turn.kept whole))
    c.args.store.now (take start text) m c.end.new.text.items (Ok c.in_ok-here.place))
    (sym c.in_ok-put_drawing.ensures.same)
    (ends_from _ start text c.requires.text.begun
    (notice_after start c.cut_to_shown.new.text.items _ _ all.begun e.text ∙ all.front)
    (standard_whole (story_of c.args.self.now) _ c.run_on.new.turn c.in_ok-here.here c.in_ok-here.place _
    c.run_on.new.store.store c.end.new.store.store c.run_on.new.text.items c.cut_to_shown.new.text.items
    c.end.new.text.items start stops e.kept.1 e.kept.2 e.standard_state
    (c.cut_to_shown.ensures.shown c.in_ok-here.here) e.text all.begun)
    (λ waits. standard_waits (story_of c.args.self.now) _ (place c.run_on.new.turn c.in_ok-here.here)
    c.in_ok-here.place _ c.run_on.new.store.store c.end.new.store.store _ r.stops e.kept.1 waits)
    (goes_on_after r.goes_on e.kept.0) tt)

pub returns-clause-script : goal.returns-clause-script
returns-clause-script c =
    let start = c.args.start in
    let text = c.args.text.now.items in
    let from : c.len-long.result - start ≡ length text - start = omega arith in
    let begun = begun_place _ c.new-turn.result c.args.dice c.args.kept.now c.args.first c.new-turn.ensures.standard_state
    (c.new-turn.ensures.kept ∙ c.replace.ensures.value) c.new-turn.ensures.streams c.new-turn.ensures.upper
    ∙ ap (λ (n : ℕ). begins_after n c.args.dice c.args.kept.now c.args.first) from in
    subst (λ h. Scripts (story_of c.args.self.now) h (state_of c.args.store.now.store (drop start text))
    c.args.script.now.items c.run_on.new.script.items) begun c.in_ok-here.ensures.script

pub returns-clause-styles : goal.returns-clause-styles
returns-clause-styles c =
    let start = c.args.start in
    let text = c.args.text.now.items in
    let from : c.len-long.result - start ≡ length text - start = omega arith in
    let begun = begun_place _ c.new-turn.result c.args.dice c.args.kept.now c.args.first c.new-turn.ensures.standard_state
    (c.new-turn.ensures.kept ∙ c.replace.ensures.value) c.new-turn.ensures.streams c.new-turn.ensures.upper
    ∙ ap (λ (n : ℕ). begins_after n c.args.dice c.args.kept.now c.args.first) from in
    λ is. subst (λ h. StylesFrom (story_of c.args.self.now) h (state_of c.args.store.now.store (drop start text))
    (styles_of c.args.styles.now).style (styles_of c.run_on.new.styles)) begun (c.in_ok-here.ensures.styles is)
