use Rattle.std.proofs.Common.{◌≡◌, ◌∙◌, List, ℕ, ap, subst, sym}
use Rattle.std.specs.Prelude.{IfOk}
use Rattle.machine_picture.specs.Marks.{marked}
use Rattle.machine_picture.specs.Represented.{styles_of}
use Rattle.session.proofs.Views.{beside_none, beside_whole}
use Rattle.session.proofs.marking.marked_beside.Goals as goal

pub returns-then-is_drawn_whole : goal.returns-then-is_drawn_whole
returns-then-is_drawn_whole c =
    subst (λ (l : List ℕ). IfOk c.marked_without_window.result (λ written. written.items ≡ l))
    (beside_whole c.args.rows c.args.drawing.now c.args.text.now (styles_of c.args.styles.now)
    (sym c.is_drawn_whole.ensures ∙ c.if-is_drawn_whole.true)) c.marked_without_window.ensures

pub returns : goal.returns
returns c =
    subst (λ (l : List ℕ). IfOk c.marked_text.result (λ written. written.items ≡ l))
    (ap (marked c.args.text.now) c.each.ensures
    ∙ beside_none c.args.rows c.args.drawing.now c.args.text.now (styles_of c.args.styles.now)
    (sym c.is_drawn_whole.ensures ∙ c.if-is_drawn_whole.false)) c.marked_text.ensures
