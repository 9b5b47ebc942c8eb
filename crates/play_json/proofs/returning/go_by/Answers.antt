use Rattle.std.proofs.Common.{refl, sym, subst, ap, arith}
use Rattle.play_json.specs.declared.kind.Kind.TheVariants as kinds
use Rattle.play_json.specs.Answers.{common, far, saying}
use Rattle.play_json.specs.Going.{Comes}
use Rattle.play_json.specs.Said.{held}
use Rattle.play_json.proofs.Saying.{leaves_all, matches_saying}
use Rattle.play_json.proofs.returning.go_by.Goals as goal

pub returns-then-back-kept : goal.returns-then-back-kept
returns-then-back-kept c = λ game s whole p w.
    let marks = c.args.lines.now.marks in (
      saying kinds.GivenUp s marks,
      far (omega (
        arith,
        p.at,
        w.common,
        ap (λ x. common x whole) p.all,
        c.count.ensures,
        c.saturating_sub-back.ensures,
        (c.counts-kept.ensures game s p.session).0,
      )) refl,
      leaves_all game kinds.GivenUp s (held c.args.session.now c.args.lines.now) c.of.result p c.of.ensures,
    )

pub returns-in-Ok : goal.returns-in-Ok
returns-in-Ok c = λ game s whole p w.
    let marks = c.args.lines.now.marks in
    let f = subst (Comes game s marks whole (held c.follow.new.session c.follow.new.lines)) c.in-Ok.is
    (c.follow.ensures game s whole p w (omega (
      arith,
      p.at,
      c.count.ensures,
      c.saturating_sub-back.ensures,
      (c.counts-kept.ensures game s p.session).0,
    ))) in (
      saying c.in-Ok.kind f.0 marks,
      f.1,
      (
        matches_saying c.in-Ok.kind f.0 marks c.of-in-Ok.result c.of-in-Ok.ensures,
        record { stands = f.2.stands; marks = f.2.marks },
      ),
    )

pub returns-in-Err : goal.returns-in-Err
returns-in-Err c = λ game s whole p w.
    let marks = c.args.lines.now.marks in
    let f = subst (Comes game s marks whole (held c.follow.new.session c.follow.new.lines)) c.in-Err.is
    (c.follow.ensures game s whole p w (omega (
      arith,
      p.at,
      c.count.ensures,
      c.saturating_sub-back.ensures,
      (c.counts-kept.ensures game s p.session).0,
    ))) in
    (saying kinds.NoMemory f.0 marks, f.1, f.2)
