use Rattle.std.proofs.Common.{ap, sym, ◌∙◌, get_or, []}
use Rattle.machine_frames.specs.States.{play_of}
use Rattle.session.specs.Game.{bytes_of, play_on}
use Rattle.session.specs.Inside.{kept_of}
use Rattle.session.specs.Modes.{loaded_in}
use Rattle.session.specs.Players.{known_of}
use Rattle.session.specs.Scripts.{is_on_with}
use Rattle.session_lines.specs.Written.{text_of}
use Rattle.session.proofs.Insides.{ready_now}
use Rattle.session.proofs.Sessions.{session_is_on}
use Rattle.session.proofs.Views.{is_on_keeping, view_loaded, view_state}
use Rattle.session.proofs.session.Session.is_scripting.Goals as goal

pub is_scripting-requires-clause-store : goal.is_scripting-requires-clause-store
is_scripting-requires-clause-store c =
    let i = c.self.inside in
    (ready_now (known_of i.player) i.store i.first i.turns.items i.done c.self.invariant).store

pub is_scripting-requires-clause-settled : goal.is_scripting-requires-clause-settled
is_scripting-requires-clause-settled c = c.self.invariant.settled

pub returns : goal.returns
returns c = λ game s h.
    let i = c.self.inside in
    let now = c.args.self.now in
    c.is_scripting.ensures ∙ ap (λ l. is_on_with l (play_of i.store.store))
    (sym (view_loaded i.keep i.fuel (known_of i.player) i.opening.items i.store.store i.first i.turns.items i.done
    (text_of i.given_up) now c.self.view_is)
    ∙ h.loaded)
    ∙ sym (is_on_keeping (loaded_in game.mode game.story) (get_or (kept_of i.first i.turns.items) i.done [])
    (play_of i.store.store))
    ∙ ap (is_on_with (loaded_in game.mode game.story))
    (sym (view_state i.keep i.fuel (known_of i.player) i.opening.items i.store.store i.first i.turns.items i.done
    (text_of i.given_up) now (play_of i.store.store) c.self.view_is
    c.self.invariant.within))
    ∙ session_is_on (loaded_in game.mode game.story) (bytes_of game) game.fuel (play_on game) game.keep s now
    (play_of i.store.store) h.session
