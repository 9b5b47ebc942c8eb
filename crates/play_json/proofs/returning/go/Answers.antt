use Rattle.std.proofs.Common.{refl, sym, subst, ◌∙◌}
use Rattle.std.specs.Prelude.{option_and_then, slice_get}
use Rattle.play_json.specs.declared.kind.Kind.TheVariants as kinds
use Rattle.play_json.specs.Answers.{MayGoTo, saying}
use Rattle.play_json.specs.Said.{held}
use Rattle.play_json.proofs.Saying.{leaves_all}
use Rattle.play_json.proofs.returning.go.Goals as goal

pub returns-in-Some : goal.returns-in-Some
returns-in-Some c = λ game s p.
    let marks = c.args.lines.now.marks in
    let gone = c.go_to.ensures game s p in (
      gone.0,
      subst (λ o. MayGoTo s marks (option_and_then (slice_get marks) o) gone.0) (sym c.in-Some.is ∙ c.mark_in.ensures)
          gone.1,
      gone.2,
    )

pub returns-in-None : goal.returns-in-None
returns-in-None c = λ game s p.
    let marks = c.args.lines.now.marks in
    let a = saying kinds.NoMark s marks in (
      a,
      subst (λ o. MayGoTo s marks (option_and_then (slice_get marks) o) a) (sym c.in-None.is ∙ c.mark_in.ensures) refl,
      leaves_all game kinds.NoMark s (held c.args.session.now c.args.lines.now) c.of.result p c.of.ensures,
    )
