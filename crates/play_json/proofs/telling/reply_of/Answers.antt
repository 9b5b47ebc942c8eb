use Rattle.std.proofs.Common.{◌≡◌, ap, option_map, refl, sym, ◌∙◌, subst}
use Rattle.serde_json.specs.View.{view}
use Rattle.zcore.specs.Turn.{is_waiting}
use Rattle.play_json.specs.Names.{awaited_at}
use Rattle.play_json.specs.Told.{styles_data}
use Rattle.session.specs.Game.{IsSessionOf, marked_on, place_on}
use Rattle.play_json.proofs.Asking.{asks_now}
use Rattle.play_json.proofs.telling.reply_of.Goals as goal

pub returns-clause-says : goal.returns-clause-says
returns-clause-says c = λ game a p m.
    let q = subst (IsSessionOf game a.standing) (sym c.in_ok-above.ensures.same) p in
    let above = c.in_ok-above.ensures.says game a.standing p in
    let marked = marked_on game a.standing.done in
    record {
      kind = m.kind;
      text = m.text;
      place = c.place-place.ensures.place game a.standing q;
      is_key = c.read-awaited.ensures.0;
      awaited = c.read-awaited.ensures.1
          ∙ ap (λ at. awaited_at c.is_some-is_asking.result c.read-awaited.ensures.0 (is_waiting at))
          (c.place-place.ensures.place game a.standing q)
          ∙ ap (λ asking. awaited_at asking c.read-awaited.ensures.0 (is_waiting (place_on game a.standing.done)))
          c.is_some-is_asking.ensures
          ∙ asks_now game a.standing c.asked_for.result c.read-awaited.ensures.0
          (c.asked_for.ensures.asked game a.standing q);
      done = (c.counts-done.ensures game a.standing q).0;
      undone = (c.counts-done.ensures game a.standing q).1;
      status = above.status;
      window = above.window;
      styles = subst (λ kind. option_map view c.in_ok-styles.styles ≡ styles_data game.showing.styles kind marked)
          m.kind (c.in_ok-styles.ensures game a.standing q);
      first = refl;
      shown = m.shown;
      mark = m.mark;
    }
