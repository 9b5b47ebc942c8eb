use Rattle.std.proofs.Common.{◌∙◌}
use Rattle.syntax_statements.specs.PartViews.{part_tree}
use Rattle.messages_diagnosis.proofs.Heading.{parts_fit}
use Rattle.messages_diagnosis.proofs.needs.heading_fits.Goals as goal

pub returns : goal.returns
returns c =
    c.all_four.ensures
    ∙ rw (
      c.fits_in-first_fits.ensures,
      c.fits_in-second_fits.ensures,
      c.fits_in-third_fits.ensures,
      c.room_after-third.ensures,
      c.room_after-second.ensures,
    )
    (parts_fit (part_tree c.args.heading.now.before) (part_tree c.args.heading.now.test)
    (part_tree c.args.heading.now.after) c.args.room)
