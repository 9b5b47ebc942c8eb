use Rattle.std.proofs.Common.{◌≡◌, ◌∙◌, ap, sym, refl, rules, get_or}
use Rattle.zcore.specs.declared.place.Place.TheVariants as places
use Rattle.session.specs.Players.{known_of}
use Rattle.session.specs.Shown.{Showing}
use Rattle.session_lines.specs.Written.{text_of}
use Rattle.session.proofs.Games.{game_taken, given_with, script_taken}
use Rattle.session.proofs.Views.{view_showing}
use Rattle.session.proofs.session.Session.reply_scripted.Goals as goal

pub play-requires-clause-styles : goal.play-requires-clause-styles
play-requires-clause-styles c =
    let i = c.self.inside in
    sym c.if-self.false
    ∙ ap (λ (x : Showing). x.styles)
    (view_showing i.keep i.fuel (known_of i.player) i.opening.items i.store.store i.first i.turns.items i.done
    (text_of i.given_up) c.args.self.now c.self.view_is)

pub returns-then-self : goal.returns-then-self
returns-then-self c = (
  (refl, (λ _. tt), c.reply_given.follows.holds-at-none),
  record {
    rests = tt;
    says = λ game s h.
        given_with game s c.args.line.now c.reply_given.result
        (sym (c.can_take.ensures game s h) ∙ c.if-not-can_take.false) (c.reply_given.ensures.says game s h);
    script = λ game s h. c.reply_given.ensures.script game s h;
  },
)

pub returns-in-Ok : goal.returns-in-Ok
returns-in-Ok c =
    let now = c.args.self.now in
    let waits : get_or now.places now.present places.Quit ≡ places.Waiting = search rules in (
      (
        refl,
        (λ _. tt),
        λ game s h.
            (game_taken game c.args.line.now s now c.play.new.self c.give_up.new.self h waits c.in-Ok.ensures.turned
            c.give_up.ensures).session,
      ),
      record {
        rests = tt;
        says = λ game s h.
            let t = game_taken game c.args.line.now s now c.play.new.self c.give_up.new.self h waits
            c.in-Ok.ensures.turned c.give_up.ensures in (
              sym (c.can_take.ensures game s h) ∙ c.if-not-can_take.false,
              t.waited,
              c.latest_text.ensures ∙ t.lent,
            );
        script = λ game s h. script_taken game c.args.line.now s now c.play.new.script.items h c.in-Ok.ensures.script;
      },
    )
