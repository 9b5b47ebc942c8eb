use Rattle.std.proofs.Common.{Some, ap, refl, rules, ◌∙◌}
use Rattle.serde_json.specs.Data.{number, unsigned}
use Rattle.play_json.specs.declared.kind.Kind.TheVariants as kinds
use Rattle.play_json.proofs.Saying.{leaves_marked, matches_mark}
use Rattle.play_json.proofs.said.mark.Goals as goal

pub returns-in-Ok : goal.returns-in-Ok
returns-in-Ok c = λ game s v p.
    let l = c.args.lines.now in (
      matches_mark s l.marks (record { kind = kinds.Mark; text = c.new.result; shown = Some c.from.result }) refl
          (search rules) (ap Some (c.from.ensures ∙ ap (λ n. number (unsigned n)) c.in-Ok.ensures.number)),
      leaves_marked game s v l c.mark.new.self p c.in-Ok.ensures.mark,
    )

pub returns-in-Err : goal.returns-in-Err
returns-in-Err c = λ game s v p. p.session
