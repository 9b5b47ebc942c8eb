use Rattle.std.proofs.Common.{refl, sym, subst}
use Rattle.std.specs.Prelude.{slice_get}
use Rattle.session.specs.Game.{IsSessionOf}
use Rattle.play_json.specs.declared.kind.Kind.TheVariants as kinds
use Rattle.play_json.specs.Answers.{MayGoTo, saying}
use Rattle.play_json.specs.Going.{IsWay}
use Rattle.play_json.specs.Said.{held}
use Rattle.play_json.proofs.Saying.{leaves_all}
use Rattle.play_json.proofs.Walking.{refused_go}
use Rattle.play_json.proofs.returning.go_to.Goals as goal

pub returns-in-Some : goal.returns-in-Some
returns-in-Some c = λ game s p.
    let marks = c.args.lines.now.marks in
    let w = subst (IsWay c.args.lines.now c.args.number) c.in-Some.is c.in-Ok.ensures in
    let gone = c.go_by.ensures game s w.0 p w.2 in
    (gone.0, subst (λ o. MayGoTo s marks o gone.0) (sym w.1) gone.1, gone.2)

pub returns-in-None : goal.returns-in-None
returns-in-None c = λ game s p.
    let marks = c.args.lines.now.marks in
    let a = saying kinds.NoMark s marks in (
      a,
      subst (λ o. MayGoTo s marks o a) (sym (subst (IsWay c.args.lines.now c.args.number) c.in-None.is c.in-Ok.ensures)) refl,
      leaves_all game kinds.NoMark s (held c.args.session.now c.args.lines.now) c.of.result p c.of.ensures,
    )

pub returns-in-Err : goal.returns-in-Err
returns-in-Err c = λ game s p.
    let r = refused_go s c.args.lines.now.marks (slice_get c.args.lines.now.marks c.args.number) in
    (r.0, r.1, subst (λ t. IsSessionOf game t c.args.session.now) (sym r.2) p.session)
