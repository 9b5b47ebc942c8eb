use Rattle.std.proofs.Common.{◌∙◌, ◌++◌, List, ℕ, ap, drop, take}
use Rattle.screen.specs.Status.{status_line}
use Rattle.screen.proofs.Adding.{to_end}
use Rattle.screen.proofs.status.with_status_line.Goals as goal

pub returns : goal.returns
returns c =
    let window : List ℕ = c.args.window.now in
    let end : ℕ = c.line_length-end.result in
    c.in_ok-extend_from_slice.ensures.items
    ∙ ap (λ (t : List ℕ). c.in_ok-text.text.items ++ t) (to_end end window)
    ∙ ap (λ (t : List ℕ). t ++ drop end window) c.in_ok-text.ensures
    ∙ ap (λ (n : ℕ). status_line c.args.columns (take n window) ++ drop n window) c.line_length-end.ensures.length
