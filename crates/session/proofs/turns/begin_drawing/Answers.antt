use Rattle.std.proofs.Common.{ap, ◌∙◌}
use Rattle.session.specs.Inside.{shown_at}
use Rattle.session.specs.Shown.{Shown}
use Rattle.session.proofs.Views.{begun_blank, begun_kept}
use Rattle.session.proofs.turns.begin_drawing.Goals as goal

pub returns-then-not-keeps_picture : goal.returns-then-not-keeps_picture
returns-then-not-keeps_picture c = begun_blank c.args.keeps_picture _
    (shown_at c.args.first.now c.args.turns.now.items c.args.done).drawing c.if-not-keeps_picture.true
    c.clear.ensures.items

pub returns : goal.returns
returns c = begun_kept c.add.result c.args.keeps_picture _ c.add.new.text.items c.drawing.result.now
    (shown_at c.args.first.now c.args.turns.now.items c.args.done).drawing c.if-not-keeps_picture.false
    c.clear.ensures.items (c.drawing.ensures ∙ ap (λ (x : Shown). x.drawing) c.reached_at.ensures) c.add.ensures
