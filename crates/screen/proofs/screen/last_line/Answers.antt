use Rattle.std.proofs.Common.{◌∙◌, ◌++◌, ap, drop, ℕ, List}
use Rattle.machine_picture.specs.Marks.{marked}
use Rattle.screen.proofs.screen.last_line.Goals as goal

pub returns : goal.returns
returns c = c.in_ok-put_rest.ensures
    ∙ ap (λ (t : List ℕ). t ++ marked (drop c.last_line_at-last.result c.args.text.now)
    (drop c.last_line_at-last.result c.args.each.now)) c.new-line.ensures.items
    ∙ ap (λ (n : ℕ). marked (drop n c.args.text.now) (drop n c.args.each.now)) c.last_line_at-last.ensures.place
