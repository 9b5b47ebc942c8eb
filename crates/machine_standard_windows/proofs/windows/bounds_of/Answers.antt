use Rattle.std.proofs.Common.{refl}
use Rattle.machine_standard_windows.proofs.Drawing.{bounds_are}
use Rattle.machine_standard_windows.proofs.windows.bounds_of.Goals as goal

pub returns-clause-bounds : goal.returns-clause-bounds
returns-clause-bounds c = bounds_are c.args.start c.place_at-begin.result _ c.args.from c.bare_length.result
    c.args.text.now c.requires.begun c.place_at-begin.ensures refl c.bare_length.ensures.bare
    c.bare_length.ensures.within
