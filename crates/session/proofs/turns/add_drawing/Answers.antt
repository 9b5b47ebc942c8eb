use Rattle.std.proofs.Common.{◌≡◌, ap, ◌∙◌, arith, subst, ◌++◌}
use Rattle.std.specs.Prelude.{OnOk}
use Rattle.session.proofs.Views.{joined_alone, joined_both, joined_first}
use Rattle.session.proofs.turns.add_drawing.Goals as goal

pub returns-then-drawing-eq0 : goal.returns-then-drawing-eq0
returns-then-drawing-eq0 c = joined_alone c.args.text.now.items c.args.drawing.now c.if-drawing-eq0.true

pub returns-then-len-eq0 : goal.returns-then-len-eq0
returns-then-len-eq0 c =
    subst (λ t. OnOk c.add.result (c.add.new.text.items ≡ t))
    (joined_first c.args.text.now.items c.args.drawing.now (omega (arith, c.if-len-eq0.true))) c.add.ensures

pub returns-in-Ok : goal.returns-in-Ok
returns-in-Ok c =
    subst (λ t. OnOk c.add-in-Ok.result (c.add-in-Ok.new.text.items ≡ t))
    (ap (λ t. t ++ c.args.drawing.now) c.in-Ok.ensures.items
    ∙ joined_both c.args.text.now.items c.args.drawing.now (omega (arith, c.if-len-eq0.false))
    (omega (arith, c.if-drawing-eq0.false)))
    c.add-in-Ok.ensures
