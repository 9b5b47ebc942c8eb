use Rattle.std.proofs.Common.{◌≡◌, ◌∙◌, ◌-◌, List, ℕ, ap, length, subst, take}
use Rattle.std.specs.Prelude.{IfOk}
use Rattle.screen.specs.Status.{in_columns, right_for, right_half}
use Rattle.screen.proofs.status.laid_out.Goals as goal

pub returns : goal.returns
returns c =
    let line : List ℕ = c.args.line.now in
    subst (λ (r : List ℕ). IfOk c.in_columns.result (λ text. text.items
    ≡ in_columns c.args.columns (take (length line - length r) line) (right_for c.args.columns r))) c.requires.half
    (subst (λ (r : List ℕ). IfOk c.in_columns.result (λ text. text.items
    ≡ in_columns c.args.columns (take (length line - length c.args.right.now) line) r))
    (c.deref.ensures.value ∙ c.in_ok-short.ensures) c.in_columns.ensures)
