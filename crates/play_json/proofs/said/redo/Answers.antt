use Rattle.std.proofs.Common.{None, sym, subst, refl, ap, ◌∙◌}
use Rattle.std.specs.Str.Lossy.{utf8_lossy}
use Rattle.play_json.specs.declared.kind.Kind.TheVariants.{NothingToRedo, Redone}
use Rattle.session_run.proofs.Replying.{absent}
use Rattle.session_lines.specs.Standing.{redo_of}
use Rattle.session.specs.Game.{IsSessionOf}
use Rattle.play_json.specs.Said.{IsSaid, held}
use Rattle.play_json.proofs.Saying.{matches_saying, redo_none, redo_some, redone}
use Rattle.play_json.proofs.Stands.{leaves_redone, redone_none, stands_same}
use Rattle.play_json.proofs.said.redo.Goals as goal

pub returns-in-None : goal.returns-in-None
returns-in-None c = λ game s p.
    let none = absent _ ((c.in-None.ensures.found game s p.session).1) in
    let v' = c.redo.follows.lender-at-none in
    subst (λ a. IsSaid game a (held v' c.args.lines.now) c.of.result)
    (sym (redo_none game s c.args.lines.now.marks none)) (
      matches_saying NothingToRedo (redo_of s) c.args.lines.now.marks c.of.result c.of.ensures,
      record {
        stands = stands_same game s (redo_of s) c.args.session.now v' c.args.lines.now p (redone_none s none)
            (c.redo.follows.holds-at-none.stands game s p.session);
        marks = refl;
      },
    )

pub returns-in_default : goal.returns-in_default
returns-in_default c = λ game s p.
    let some = (c.in-Some.ensures.found game s p.session).0 refl in
    subst (λ a. IsSessionOf game a.standing c.redo.follows.lender-at-none)
    (sym (redo_some game s c.args.lines.now.marks some)) (c.redo.follows.holds-at-none.stands game s p.session)

pub returns-in-Ok : goal.returns-in-Ok
returns-in-Ok c = λ game s p.
    let l = c.args.lines.now in
    let v' = c.redo.follows.lender-at-none in
    let some = (c.in-Some.ensures.found game s p.session).0 refl in
    subst (λ a. IsSaid game a (held v' c.lengthen.new.self)
    (record { kind = Redone; text = c.in-Ok.text; shown = None }))
    (sym (redo_some game s l.marks some)) (
      record {
        kind = refl;
        text = c.in-Ok.ensures.lossy ∙ ap utf8_lossy (c.in-Some.ensures.text game s p.session);
        shown = λ _. refl;
        mark = tt;
      },
      leaves_redone game s (redone game s l.marks) c.args.session.now v' l c.lengthen.new.self p some
          (c.redo.follows.holds-at-none.stands game s p.session) c.lengthen.ensures refl refl,
    )
