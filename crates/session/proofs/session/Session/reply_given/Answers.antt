use Rattle.std.proofs.Common.{◌∙◌, ap, sym, refl}
use Rattle.zcore.specs.declared.place.Place.TheVariants as places
use Rattle.zcore.specs.Turn.{is_waiting}
use Rattle.session.specs.Game.{bytes_of, play_on}
use Rattle.session.specs.Players.{known_of}
use Rattle.session.specs.Shown.{Showing}
use Rattle.session_lines.specs.Written.{text_of}
use Rattle.session.proofs.Sessions.{session_place}
use Rattle.session.proofs.Games.{game_taken, script_taken}
use Rattle.session.proofs.Views.{view_showing}
use Rattle.session.proofs.session.Session.reply_given.Goals as goal

pub play-requires-clause-styles : goal.play-requires-clause-styles
play-requires-clause-styles c =
    let i = c.self.inside in
    ap (λ (x : Showing). x.styles)
    (view_showing i.keep i.fuel (known_of i.player) i.opening.items i.store.store i.first i.turns.items i.done
    (text_of i.given_up) c.args.self.now c.self.view_is)

pub returns-in-Ok : goal.returns-in-Ok
returns-in-Ok c =
    let now = c.args.self.now in (
      (
        refl,
        (λ _. tt),
        λ game s h.
            (game_taken game c.args.given.now s now c.play.new.self c.give_up.new.self h c.requires.waits
            c.in-Ok.ensures.turned c.give_up.ensures).session,
      ),
      record {
        rests = tt;
        says = λ game s h.
            let t = game_taken game c.args.given.now s now c.play.new.self c.give_up.new.self h c.requires.waits
            c.in-Ok.ensures.turned c.give_up.ensures in (
              t.waited,
              c.latest_text.ensures ∙ t.lent,
            );
        script = λ game s h. script_taken game c.args.given.now s now c.play.new.script.items h c.in-Ok.ensures.script;
      },
    )

pub returns-in-Err : goal.returns-in-Err
returns-in-Err c =
    let now = c.args.self.now in (
      (refl, (λ _. tt), c.in-Err.ensures.same),
      record {
        rests = tt;
        says = λ game s h.
            ap is_waiting
            (sym (session_place (bytes_of game) game.fuel (play_on game) game.keep s now places.Waiting (sym c.requires.waits)
            h.session));
        script = λ game s h. tt;
      },
    )
