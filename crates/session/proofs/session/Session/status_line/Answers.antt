use Rattle.std.proofs.Common.{◌≡◌, ap, sym, subst, ◌∙◌, refl, get_or, []}
use Rattle.machine_frames.specs.States.{play_of}
use Rattle.session.specs.Asking.{line_with}
use Rattle.session.specs.Inside.{IsBetweenTurns, kept_of, view_of}
use Rattle.session.specs.Modes.{loaded_in}
use Rattle.session.specs.Players.{known_of}
use Rattle.session_lines.specs.Written.{text_of}
use Rattle.session.proofs.Insides.{ready_now}
use Rattle.machine_picture.specs.Picture.{joined}
use Rattle.session.specs.Shown.{Shown}
use Rattle.session.proofs.Showings.{status_text}
use Rattle.session.proofs.Views.{status_keeping, view_loaded, view_shown, view_state}
use Rattle.session.proofs.session.Session.status_line.Goals as goal

pub put_status_line-requires-clause-store : goal.put_status_line-requires-clause-store
put_status_line-requires-clause-store c =
    let i = c.self.inside in
    (ready_now (known_of i.player) i.store i.first i.turns.items i.done c.self.invariant).store

pub put_status_line-requires-clause-settled : goal.put_status_line-requires-clause-settled
put_status_line-requires-clause-settled c = c.self.invariant.settled

pub put_status_line-requires-clause-idle : goal.put_status_line-requires-clause-idle
put_status_line-requires-clause-idle c = c.self.invariant.idle

pub put_status_line-requires-clause-begun : goal.put_status_line-requires-clause-begun
put_status_line-requires-clause-begun c = c.self.invariant.begun

pub invariant_of-self : goal.invariant_of-self
invariant_of-self c =
    let i = c.self.inside in
    subst (λ s. IsBetweenTurns (known_of i.player) s i.first i.turns.items i.done)
    (sym c.put_status_line.ensures.same) c.self.invariant

pub returns : goal.returns
unfolding view_of
returns c =
    let i = c.self.inside in
    let now = c.args.self.now in (
      (
        refl,
        (λ _. tt),
        ap (λ t. view_of i.keep i.fuel (known_of i.player) i.opening.items t.store i.first i.turns.items i.done
            (text_of i.given_up)) c.put_status_line.ensures.same ∙ c.self.view_is,
      ),
      record {
        rests = tt;
        line = λ game s h.
            let loaded = loaded_in game.mode game.story in
            let here : c.put_status_line.new.text.items
            ≡ line_with loaded (get_or now.states now.present (play_of i.store.store)) =
            c.in_ok-put_status_line.ensures.line
            ∙ ap (λ l. line_with l (play_of i.store.store))
            (sym (view_loaded i.keep i.fuel (known_of i.player) i.opening.items i.store.store i.first i.turns.items i.done
            (text_of i.given_up) now c.self.view_is) ∙ h.loaded)
            ∙ sym (status_keeping (loaded_in game.mode game.story)
            (get_or (kept_of i.first i.turns.items) i.done []) (play_of i.store.store))
            ∙ ap (line_with (loaded_in game.mode game.story))
            (sym (view_state i.keep i.fuel (known_of i.player) i.opening.items i.store.store i.first i.turns.items i.done
            (text_of i.given_up) now (play_of i.store.store) c.self.view_is c.self.invariant.within)) in
            c.deref.ensures.value ∙ c.in_ok-add_drawing.ensures ∙ ap (λ l. joined l c.drawing.result.now) here
            ∙ ap (joined (line_with loaded (get_or now.states now.present (play_of i.store.store))))
            (c.drawing.ensures ∙ ap (λ (x : Shown). x.drawing) (c.reached_at-reached.ensures
            ∙ view_shown i.keep i.fuel (known_of i.player) i.opening.items i.store.store i.first i.turns.items i.done
            (text_of i.given_up) now c.self.view_is))
            ∙ status_text game s now (play_of i.store.store) h;
      },
    )
