use Rattle.std.proofs.Common.{◌≡◌, ap, ◌∙◌, arith, length, refl}
use Rattle.zcore_versions.specs.Machine.{any}
use Rattle.machine_frames.specs.Contents.{memory_of}
use Rattle.machine_frames.proofs.Steps.{goes_on_still}
use Rattle.machine.proofs.Turning.{long_memory, ends_after, front_still}
use Rattle.machine_standard.specs.Loads.{story_of}
use Rattle.machine_standard.proofs.Drawings.{drawn_first, opens_drawing}
use Rattle.machine_standard.proofs.Scripted.{opens_script, scripted_first}
use Rattle.machine_standard.proofs.Whole.{ends_at_front, opens_standard, turns_first}
use Rattle.machine_picture.specs.Represented.{styles_of}
use Rattle.machine_standard.proofs.StyledTurns.{asked, opens_styles, styled_first}
use Rattle.machine_standard.proofs.turn.StandardMachine.open.Goals as goal

pub first_next-first-requires : goal.first_next-first-requires
first_next-first-requires c =
    let e = ap length (c.memory.ensures ∙ ap memory_of c.store.ensures) in
    omega (arith, e, long_memory c.args.store.now.store c.requires.store.store.sound)

pub play-requires-clause-text : goal.play-requires-clause-text
play-requires-clause-text c = record { begun = omega arith; within = omega arith }

pub returns-clause-ends : goal.returns-clause-ends
returns-clause-ends c =
    let text = c.args.text.now.items in
    let start : c.len-start.result ≡ length text = omega arith in
    let played = ends_at_front _ c.len-start.result text text start (front_still text text refl) c.play.ensures.ends in
    ends_after _ (goes_on_still _ c.requires.store.store.sound)
    (opens_standard c.play.result (story_of c.args.self.now) c.args.kept.now c.args.store.now.store c.args.fuel c.dice.result _ _ _
    c.dice.ensures c.requires.opening (c.memory.ensures ∙ ap memory_of c.store.ensures) c.first_next-first.ensures
    (turns_first (any (story_of c.args.self.now)) c.args.store.now.store c.dice.result c.args.kept.now _ _ c.play.result
    c.len-start.result text start played.whole))
    played

pub returns-clause-drawing : goal.returns-clause-drawing
returns-clause-drawing c =
    let text = c.args.text.now.items in
    let start : c.len-start.result ≡ length text = omega arith in
    opens_drawing c.play.result (story_of c.args.self.now) c.args.kept.now c.args.store.now.store c.args.fuel
    c.dice.result _ _ c.args.drawing.now.items _ c.dice.ensures c.requires.opening
    (c.memory.ensures ∙ ap memory_of c.store.ensures) c.first_next-first.ensures
    (drawn_first c.play.result (story_of c.args.self.now) c.dice.result c.args.kept.now _ c.args.store.now.store
    c.len-start.result text c.args.drawing.now.items _ start c.play.ensures.drawing)

pub returns-clause-script : goal.returns-clause-script
returns-clause-script c =
    let text = c.args.text.now.items in
    let start : c.len-start.result ≡ length text = omega arith in
    opens_script c.play.result (story_of c.args.self.now) c.args.kept.now c.args.store.now.store c.args.fuel
    c.dice.result _ _ c.args.script.now.items _ c.dice.ensures c.requires.opening
    (c.memory.ensures ∙ ap memory_of c.store.ensures) c.first_next-first.ensures c.requires.unwritten
    (scripted_first c.play.result (story_of c.args.self.now) c.dice.result c.args.kept.now _ c.args.store.now.store
    c.len-start.result text c.args.script.now.items _ start c.play.ensures.script)

pub returns-clause-styles : goal.returns-clause-styles
returns-clause-styles c =
    let text = c.args.text.now.items in
    let start : c.len-start.result ≡ length text = omega arith in
    asked c.play.result c.args.has_styles
    (λ h. opens_styles (story_of c.args.self.now) c.args.kept.now c.args.store.now.store c.args.fuel c.dice.result _ _
    (styles_of c.args.styles.now).style _ c.dice.ensures c.requires.opening
    (c.memory.ensures ∙ ap memory_of c.store.ensures) c.first_next-first.ensures
    (styled_first (story_of c.args.self.now) c.dice.result c.args.kept.now _ c.args.store.now.store c.len-start.result text
    (styles_of c.args.styles.now).style _ start h))
    c.play.ensures.styles
