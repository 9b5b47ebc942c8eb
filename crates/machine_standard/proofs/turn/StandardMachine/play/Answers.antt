use Rattle.std.proofs.Common.{◌-◌, sym, subst, drop, length, take}
use Rattle.std.specs.Prelude.{IfOk}
use Rattle.zcore.specs.Turn.{TurnsBy}
use Rattle.zcore_standard.specs.Machine.{begins_after, keeping}
use Rattle.zcore_versions.specs.Machine.{any}
use Rattle.machine_frames.specs.Contents.{Contents}
use Rattle.machine_frames.specs.Playing.{whole_of}
use Rattle.machine_frames.specs.States.{state_of}
use Rattle.machine.proofs.Turning.{goes_on_kept, ends_after, ends_given_up}
use Rattle.machine_standard_windows.proofs.TurnTexts.{keeps_still}
use Rattle.machine_standard.specs.Loads.{IsStoreFor, story_of}
use Rattle.machine_standard.proofs.Drawings.{drawn_as}
use Rattle.machine_standard.proofs.Scripted.{scripted_as}
use Rattle.machine_standard.proofs.Whole.{front_from}
use Rattle.machine_picture.specs.Represented.{styles_of}
use Rattle.machine_standard.proofs.StyledTurns.{asked, styled_as}
use Rattle.machine_standard.proofs.turn.StandardMachine.play.Goals as goal

pub keep_stack-requires : goal.keep_stack-requires
keep_stack-requires c = c.requires.store.store.sound

pub play_on-requires-clause-store : goal.play_on-requires-clause-store
play_on-requires-clause-store c = subst (λ (x : Contents). IsStoreFor c.args.self.now x)
    (sym c.in_ok-keep_stack.ensures.more.store) c.requires.store

pub returns-in_err-keep_stack-clause-ends : goal.returns-in_err-keep_stack-clause-ends
returns-in_err-keep_stack-clause-ends c =
    ends_given_up _ _ c.from_residual.ensures.1 c.in_err-keep_stack.ensures.given_up
    (front_from c.args.start c.args.text.now.items _ c.requires.text.begun (keeps_still _ _ c.requires.text))

pub returns-clause-ends : goal.returns-clause-ends
returns-clause-ends c =
    let k = c.in_ok-keep_stack.ensures.more in
    let e = c.play_on.ensures.ends in
    let text = c.args.text.now.items in
    ends_after _ (goes_on_kept c.args.store.now c.keep_stack.new.store c.requires.store.store.sound k.store k.beginning)
    (subst (λ (x : Contents). IfOk c.play_on.result (λ place. TurnsBy (any (story_of c.args.self.now))
    (begins_after (length text - c.args.start) c.args.dice c.args.kept.now c.args.first)
    (state_of x (drop c.args.start text))
    (keeping c.play_on.new.kept (whole_of c.play_on.new.store.store place
    (drop (length (take c.args.start text)) c.play_on.new.text.items)))))
    k.store e.whole)
    e

pub returns-clause-drawing : goal.returns-clause-drawing
returns-clause-drawing c =
    let text = c.args.text.now.items in
    drawn_as c.play_on.result (story_of c.args.self.now)
    (begins_after (length text - c.args.start) c.args.dice c.args.kept.now c.args.first) c.keep_stack.new.store.store
    c.args.store.now.store (drop c.args.start text) c.args.drawing.now.items _ c.in_ok-keep_stack.ensures.more.store
    c.play_on.ensures.drawing

pub returns-clause-script : goal.returns-clause-script
returns-clause-script c =
    let text = c.args.text.now.items in
    scripted_as c.play_on.result (story_of c.args.self.now)
    (begins_after (length text - c.args.start) c.args.dice c.args.kept.now c.args.first) c.keep_stack.new.store.store
    c.args.store.now.store (drop c.args.start text) c.args.script.now.items _ c.in_ok-keep_stack.ensures.more.store
    c.play_on.ensures.script

pub returns-clause-styles : goal.returns-clause-styles
returns-clause-styles c =
    let text = c.args.text.now.items in
    asked c.play_on.result c.args.has_styles
    (λ h. styled_as (story_of c.args.self.now)
    (begins_after (length text - c.args.start) c.args.dice c.args.kept.now c.args.first) c.keep_stack.new.store.store
    c.args.store.now.store (drop c.args.start text) (styles_of c.args.styles.now).style _
    c.in_ok-keep_stack.ensures.more.store h)
    c.play_on.ensures.styles
