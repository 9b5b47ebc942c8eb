use Rattle.std.proofs.Common.{ℕ, ap, take}
use Rattle.machine_picture.specs.Marks.{marked}
use Rattle.screen.specs.Replies.{last_line_at, lines_before, upper_removed}
use Rattle.screen.proofs.Adding.{put_by, then_more}
use Rattle.screen.proofs.screen.Screen.put_lines.Goals as goal

pub returns-clause-added : goal.returns-clause-added
returns-clause-added c = then_more _ _ _ (upper_removed c.args.self.upper)
    (marked (lines_before c.args.text.now) (take (last_line_at c.args.text.now) c.args.each.now))
    c.in_ok-put_removed.ensures.added
    (put_by _ _ _ _ c.in_ok-put_first.ensures
    (ap (λ (n : ℕ). marked (take n c.args.text.now) (take n c.args.each.now)) c.last_line_at-last.ensures.place))
