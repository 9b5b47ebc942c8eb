use Rattle.std.proofs.Common.{refl, sym, ◌∙◌}
use Rattle.play_json.specs.declared.kind.Kind.TheVariants as kinds
use Rattle.play_json.specs.declared.request.Request.TheVariants.{Undo, Redo, Show, Mark, Go, Turn, Unknown}
use Rattle.session.specs.Game.{telling_of}
use Rattle.play_json.specs.Answers.{answer_mark, answer_redo, answer_turn, answer_undo, saying, typed}
use Rattle.play_json.specs.Said.{held}
use Rattle.play_json.proofs.Replying.{says_of}
use Rattle.play_json.proofs.Saying.{at_request, leaves_all, shown_says}
use Rattle.play_json.proofs.said.say.Goals as goal

pub returns-in-Undo : goal.returns-in-Undo
returns-in-Undo g c = λ game s p.
    let marks = c.args.lines.now.marks in
    let a = answer_undo s marks in (
      a,
      at_request game s marks c.args.line.now a Undo c.requires (sym c.in-Undo.is ∙ c.of.ensures) refl,
      c.undo.ensures game s p,
    )

pub returns-in-Redo : goal.returns-in-Redo
returns-in-Redo g c = says_of c.args.line.now (held c.args.session.now c.args.lines.now)
    (held c.redo.new.session c.redo.new.lines) c.redo.result
    (λ game s p.
    let marks = c.args.lines.now.marks in
    let a = answer_redo (telling_of game) s marks in (
      a,
      at_request game s marks c.args.line.now a Redo c.requires (sym c.in-Redo.is ∙ c.of.ensures) refl,
      c.redo.ensures game s p,
    ))

pub returns-in-Mark : goal.returns-in-Mark
returns-in-Mark g c = says_of c.args.line.now (held c.args.session.now c.args.lines.now)
    (held c.args.session.now c.mark.new.lines) c.mark.result
    (λ game s p.
    let marks = c.args.lines.now.marks in
    let a = answer_mark s marks in (
      a,
      at_request game s marks c.args.line.now a Mark c.requires (sym c.in-Mark.is ∙ c.of.ensures) refl,
      c.mark.ensures game s c.args.session.now p,
    ))

pub returns-in-Go : goal.returns-in-Go
returns-in-Go g c = says_of c.args.line.now (held c.args.session.now c.args.lines.now)
    (held c.go.new.session c.go.new.lines) c.go.result
    (λ game s p.
    let gone = c.go.ensures game s p in (
      gone.0,
      at_request game s c.args.lines.now.marks c.args.line.now gone.0 Go c.requires (sym c.in-Go.is ∙ c.of.ensures) gone.1,
      gone.2,
    ))

pub returns-in-Turn : goal.returns-in-Turn
returns-in-Turn g c = says_of c.args.line.now (held c.args.session.now c.args.lines.now)
    (held c.take.new.session c.take.new.lines) c.take.result
    (λ game s p.
    let marks = c.args.lines.now.marks in
    let taken = c.take.ensures game s p in
    let a = answer_turn (telling_of game) game.keep s marks (typed c.args.line.now taken.0 taken.1) in (
      a,
      at_request game s marks c.args.line.now a Turn c.requires (sym c.in-Turn.is ∙ c.of.ensures) (taken.0, taken.1, refl),
      taken.2,
    ))

pub returns-in-Show : goal.returns-in-Show
returns-in-Show g c = says_of c.args.line.now (held c.args.session.now c.args.lines.now)
    (held c.args.session.now c.args.lines.now) c.show.result
    (λ game s p.
    shown_says game s c.args.line.now (held c.args.session.now c.args.lines.now) c.in-Show.topic c.show.result c.requires
    (sym c.in-Show.is ∙ c.of.ensures) p c.show.ensures)

pub returns-in-Unknown : goal.returns-in-Unknown
returns-in-Unknown g c = λ game s p.
    let marks = c.args.lines.now.marks in
    let a = saying kinds.Unknown s marks in (
      a,
      at_request game s marks c.args.line.now a Unknown c.requires (sym c.in-Unknown.is ∙ c.of.ensures) refl,
      leaves_all game kinds.Unknown s (held c.args.session.now c.args.lines.now) c.of-in-Unknown.result p
          c.of-in-Unknown.ensures,
    )
