use Rattle.std.proofs.Common.{[]}
use Rattle.derive_joined.specs.declared.mode.Mode.TheVariants as m
use Rattle.derive_joined.specs.Joiners.{inside}
use Rattle.derive_joined.proofs.Stretches.{byte_stays}
use Rattle.derive_joined.proofs.stretch.text_step.Goals as goal

pub returns-then-stays_in_text-clause-stays : goal.returns-then-stays_in_text-clause-stays
returns-then-stays_in_text-clause-stays c = λ ends.
    byte_stays (inside m.Text ends) c.args.bytes.now c.args.at c.requires
    (λ bs. c.stays_in_text.ensures c.if-stays_in_text.true [] ends bs)
