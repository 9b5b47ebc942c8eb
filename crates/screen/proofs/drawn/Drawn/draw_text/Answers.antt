use Rattle.std.proofs.Common.{vec_items}
use Rattle.screen.proofs.Drawing.{draws_text, no_prompt}
use Rattle.screen.proofs.drawn.Drawn.draw_text.Goals as goal

pub invariant_of-self : goal.invariant_of-self
invariant_of-self g c = record {
  drew = draws_text _ _ _ _ _ _ _ _ _ _ _ _ _ _ _ (no_prompt vec_items c.args.self.now.prompt c.requires.prompt) c.requires.drawn
      c.deref.ensures.value c.new-drawn.ensures.items c.clear.ensures.items c.in_ok-prompt.ensures
      c.args.self.now.drew;
}
