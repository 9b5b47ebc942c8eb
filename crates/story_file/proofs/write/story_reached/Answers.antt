use Rattle.std.proofs.Common.{◌≡◌, ap, ◌∙◌}
use Rattle.meaning.specs.declared.places.Places.{Places}
use Rattle.meaning.specs.Views.{program_of}
use Rattle.story_file.specs.Written.{reaches_end}
use Rattle.story_file.proofs.Laid.{reach_as, story_reached, story_too_long}
use Rattle.story_file.proofs.write.story_reached.Goals as goal

pub story_with-requires-clause-fits : goal.story_with-requires-clause-fits
story_with-requires-clause-fits c =
    let p = program_of c.args.checked.now in
    let reached : reaches_end c.args.version p ≡ c.in_ok-fits.fits =
    reach_as c.args.version p c.args.codes.now c.part_places-at.result.routines c.in_ok-fits.fits
    (ap (λ (at : Places). at.routines) c.part_places-at.ensures) c.requires.codes
    c.in_ok-fits.ensures in
    record {
      accepted = c.requires.tables.accepted;
      printable = c.requires.tables.printable;
      placed = c.requires.tables.placed;
      within = story_reached c.args.version p c.requires.tables (reached ∙ c.if-fits.true);
    }

pub returns-in_ok-story : goal.returns-in_ok-story
returns-in_ok-story c =
    let p = program_of c.args.checked.now in
    let reached : reaches_end c.args.version p ≡ c.in_ok-fits.fits =
    reach_as c.args.version p c.args.codes.now c.part_places-at.result.routines c.in_ok-fits.fits
    (ap (λ (at : Places). at.routines) c.part_places-at.ensures) c.requires.codes
    c.in_ok-fits.ensures in
    (c.in_ok-story.ensures, story_reached c.args.version p c.requires.tables (reached ∙ c.if-fits.true))

pub returns-else-fits : goal.returns-else-fits
returns-else-fits c =
    let p = program_of c.args.checked.now in
    let reached : reaches_end c.args.version p ≡ c.in_ok-fits.fits =
    reach_as c.args.version p c.args.codes.now c.part_places-at.result.routines c.in_ok-fits.fits
    (ap (λ (at : Places). at.routines) c.part_places-at.ensures) c.requires.codes
    c.in_ok-fits.ensures in
    story_too_long c.args.version p c.requires.tables (reached ∙ c.if-fits.false)
