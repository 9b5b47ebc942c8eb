use Rattle.derive_joined.specs.declared.mode.Mode.TheVariants as m
use Rattle.derive_joined.specs.Joiners.{inside}
use Rattle.derive_joined.proofs.Stretches.{both_stay}
use Rattle.derive_joined.proofs.stretch.text_length.Goals as goal

pub loop-at-preserved : goal.loop-at-preserved
loop-at-preserved c =
    let more = c.text_step-count in
    record {
      within = more.ensures.within;
      stays = λ ends. both_stay (inside m.Text ends) c.args.bytes.now c.loop-at.at more.result
          (c.loop-at.invariant.stays ends) (more.ensures.stays ends);
    }
