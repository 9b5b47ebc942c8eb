use Rattle.std.proofs.Common.{ap, refl, subst, sym}
use Rattle.machine.specs.Ended.{OpensOrAnswers, TurnEndsBy}
use Rattle.machine_frames.specs.Playing.{IsWaiting, whole_of}
use Rattle.machine_standard.specs.Playing.{OpensOrAnswersStandard}
use Rattle.machine_standard.specs.Loads.{story_of}
use Rattle.machine_versions_words.specs.Taking.{CanBeGivenBy}
use Rattle.zcore_standard.specs.Machine.{keeping}
use Rattle.session.specs.Modes.{CanTake}
use Rattle.std.specs.Prelude.{IsTrue, OnOk}
use Rattle.machine_picture.specs.Represented.{styles_of}
use Rattle.session.specs.Players.{known_of, IsReadyIn, PlayerDrawing, PlayerScript, PlayerStyles, PlayerTurn}
use Rattle.session.proofs.Players.{ends_as, none_kept, profile_ready, standard_machine_turn, standard_store}
use Rattle.session.proofs.Players.{profile_drawing_on, profile_script, standard_drawing_on, standard_known}
use Rattle.session.proofs.Players.{profile_styles, standard_ready, standard_script, standard_styles}
use Rattle.session.proofs.player.Player.turn.Goals as goal

pub turn-requires-clause-ready : goal.turn-requires-clause-ready
turn-requires-clause-ready c =
    profile_ready c.in-Profile.machine.header c.args.line c.args.store.now.store
    (subst (λ k. IsReadyIn k c.args.line c.args.store.now.store) (ap known_of c.in-Profile.is) c.requires.ready)

pub turn-requires-in-Standard-clause-store : goal.turn-requires-in-Standard-clause-store
turn-requires-in-Standard-clause-store c =
    standard_store c.in-Standard.machine c.args.store.now.store (known_of c.args.self.now)
    (ap known_of c.in-Standard.is) c.requires.store c.requires.settled

pub turn-requires-in-Standard-clause-ready : goal.turn-requires-in-Standard-clause-ready
turn-requires-in-Standard-clause-ready c =
    standard_ready c.in-Standard.machine.header (story_of c.in-Standard.machine) c.args.line c.args.store.now.store
    (subst (λ k. IsReadyIn k c.args.line c.args.store.now.store) (ap known_of c.in-Standard.is) c.requires.ready)

pub turn-requires-in-Standard-clause-idle : goal.turn-requires-in-Standard-clause-idle
turn-requires-in-Standard-clause-idle c = c.requires.idle

pub returns-in-Profile-clause-drawing : goal.returns-in-Profile-clause-drawing
returns-in-Profile-clause-drawing c =
    subst (λ k. OnOk c.turn.result
    (PlayerDrawing k c.args.line c.args.kept.now c.args.store.now.store c.args.fuel c.args.drawing.now.items
    c.args.drawing.now.items))
    (sym (ap known_of c.in-Profile.is))
    (profile_drawing_on c.turn.result c.in-Profile.machine.header c.args.line c.args.kept.now c.args.store.now.store
    c.args.fuel c.args.drawing.now.items)

pub returns-in-Standard-clause-drawing : goal.returns-in-Standard-clause-drawing
returns-in-Standard-clause-drawing c =
    subst (λ k. OnOk c.turn-in-Standard.result
    (PlayerDrawing k c.args.line c.args.kept.now c.args.store.now.store c.args.fuel c.args.drawing.now.items
    c.turn-in-Standard.new.drawing.items)) (sym (ap known_of c.in-Standard.is))
    (standard_drawing_on c.turn-in-Standard.result c.in-Standard.machine.header (story_of c.in-Standard.machine)
    c.args.line c.args.kept.now c.args.store.now.store c.args.fuel c.args.drawing.now.items
    c.turn-in-Standard.new.drawing.items c.turn-in-Standard.ensures.drawing)

pub returns-in-Profile-clause-script : goal.returns-in-Profile-clause-script
returns-in-Profile-clause-script c =
    subst (λ k. OnOk c.turn.result
    (PlayerScript k c.args.line c.args.kept.now c.args.store.now.store c.args.fuel c.args.script.now.items))
    (sym (ap known_of c.in-Profile.is))
    (profile_script c.turn.result c.in-Profile.machine.header c.args.line c.args.kept.now c.args.store.now.store
    c.args.fuel c.args.script.now.items c.requires.unwritten)

pub returns-in-Standard-clause-script : goal.returns-in-Standard-clause-script
returns-in-Standard-clause-script c =
    subst (λ k. OnOk c.turn-in-Standard.result
    (PlayerScript k c.args.line c.args.kept.now c.args.store.now.store c.args.fuel
    c.turn-in-Standard.new.script.items)) (sym (ap known_of c.in-Standard.is))
    (standard_script c.turn-in-Standard.result c.in-Standard.machine.header (story_of c.in-Standard.machine)
    c.args.line c.args.kept.now c.args.store.now.store c.args.fuel c.turn-in-Standard.new.script.items
    c.turn-in-Standard.ensures.script)

pub returns-in-Profile-clause-ends : goal.returns-in-Profile-clause-ends
returns-in-Profile-clause-ends c =
    subst (λ k. TurnEndsBy (CanTake k.loaded)
    (λ whole. PlayerTurn k c.args.line c.args.kept.now c.args.store.now.store c.args.fuel (keeping c.drop_kept.new.kept whole))
    c.args.store.now c.args.text.now.items c.turn.new.store c.turn.new.text.items c.turn.result)
    (sym (ap known_of c.in-Profile.is))
    (ends_as IsWaiting (OpensOrAnswers c.args.line c.args.store.now.store c.args.fuel) _ c.args.store.now
    c.args.text.now.items c.turn.new.store c.turn.new.text.items c.turn.result
    (λ place text h. none_kept c.in-Profile.machine.header c.args.line c.args.kept.now c.args.store.now.store c.args.fuel
    c.drop_kept.new.kept c.drop_kept.ensures (whole_of c.turn.new.store.store place text) h refl)
    c.turn.ensures.ends)

pub returns-in-Standard-clause-ends : goal.returns-in-Standard-clause-ends
returns-in-Standard-clause-ends c =
    subst (λ k. TurnEndsBy (CanTake k.loaded)
    (λ whole. PlayerTurn k c.args.line c.args.kept.now c.args.store.now.store c.args.fuel (keeping c.turn-in-Standard.new.kept whole))
    c.args.store.now c.args.text.now.items c.turn-in-Standard.new.store c.turn-in-Standard.new.text.items
    c.turn-in-Standard.result) (sym (ap known_of c.in-Standard.is))
    (ends_as (CanBeGivenBy (story_of c.in-Standard.machine))
    (λ whole. OpensOrAnswersStandard (story_of c.in-Standard.machine) c.args.line c.args.kept.now c.args.store.now.store c.args.fuel
    (keeping c.turn-in-Standard.new.kept whole))
    (λ whole. PlayerTurn (standard_known c.in-Standard.machine) c.args.line c.args.kept.now c.args.store.now.store c.args.fuel
    (keeping c.turn-in-Standard.new.kept whole)) c.args.store.now
    c.args.text.now.items c.turn-in-Standard.new.store c.turn-in-Standard.new.text.items c.turn-in-Standard.result
    (λ place text h. standard_machine_turn c.in-Standard.machine.header (story_of c.in-Standard.machine) c.args.line
    c.args.kept.now c.args.store.now.store c.args.fuel (keeping c.turn-in-Standard.new.kept (whole_of c.turn-in-Standard.new.store.store place text)) h) c.turn-in-Standard.ensures.ends)

pub returns-in-Profile-clause-styles : goal.returns-in-Profile-clause-styles
returns-in-Profile-clause-styles c =
    subst (λ k. OnOk c.turn.result (IsTrue c.args.has_styles
    → PlayerStyles k c.args.line c.args.kept.now c.args.store.now.store c.args.fuel
    (styles_of c.args.styles.now).style (styles_of c.args.styles.now)))
    (sym (ap known_of c.in-Profile.is))
    (profile_styles c.turn.result c.args.has_styles c.in-Profile.machine.header c.args.line c.args.kept.now
    c.args.store.now.store c.args.fuel (styles_of c.args.styles.now).style (styles_of c.args.styles.now)
    c.requires.unstyled)

pub returns-in-Standard-clause-styles : goal.returns-in-Standard-clause-styles
returns-in-Standard-clause-styles c =
    subst (λ k. OnOk c.turn-in-Standard.result (IsTrue c.args.has_styles
    → PlayerStyles k c.args.line c.args.kept.now c.args.store.now.store c.args.fuel
    (styles_of c.args.styles.now).style (styles_of c.turn-in-Standard.new.styles))) (sym (ap known_of c.in-Standard.is))
    (standard_styles c.turn-in-Standard.result c.args.has_styles c.in-Standard.machine.header
    (story_of c.in-Standard.machine) c.args.line c.args.kept.now c.args.store.now.store c.args.fuel
    (styles_of c.args.styles.now).style (styles_of c.turn-in-Standard.new.styles)
    c.turn-in-Standard.ensures.styles)
