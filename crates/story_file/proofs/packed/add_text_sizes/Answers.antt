use Rattle.std.proofs.Common.{◌∙◌}
use Rattle.story_file.proofs.Laid.{sizes_step}
use Rattle.story_file.proofs.packed.add_text_sizes.Goals as goal

pub loop-text-preserved : goal.loop-text-preserved
loop-text-preserved c =
    sizes_step c.args.texts.now c.loop-text.text-index c.len.result c.text-item.result c.loop-text.sizes.items
    c.push.new.self.items _ c.loop-text-test.true c.text-item.is (c.len.ensures ∙ c.text-item.result.ok.0)
    c.in_ok-push.ensures.items c.loop-text.invariant
