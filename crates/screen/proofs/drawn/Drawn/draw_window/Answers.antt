use Rattle.std.proofs.Common.{ap}
use Rattle.screen.specs.Status.{window_for}
use Rattle.screen.proofs.Drawing.{draws_window, put_line}
use Rattle.screen.proofs.drawn.Drawn.draw_window.Goals as goal

pub invariant_of-self-2 : goal.invariant_of-self-2
invariant_of-self-2 g c = record {
  drew = draws_window _ _ _ _ _ _ _ _ _ _ _ _ _ _ _ c.last_line.ensures c.requires.drawn
      c.new-drawn.ensures.items c.clear.ensures.items c.in_ok-put_window.ensures.added c.args.self.now.drew;
}

pub returns-clause-drawn : goal.returns-clause-drawn
returns-clause-drawn g c = put_line _ _ _ _ _ _ _ _ c.last_line.ensures c.new-drawn.ensures.items
    c.in_ok-put_window.ensures.added (ap (window_for
    c.args.self.now.screen.has_line c.args.self.now.screen.size.columns) c.deref-2.ensures.value)
