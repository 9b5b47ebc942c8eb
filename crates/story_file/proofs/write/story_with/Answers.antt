use Rattle.std.proofs.Common.{◌+◌, length, ap, sym, subst, ◌∙◌, arith}
use Rattle.std.proofs.lemmas.List.{length-append}
use Rattle.meaning.specs.Views.{program_of}
use Rattle.story_file.specs.Layout.{body_of}
use Rattle.story_file.specs.Written.{AreWords}
use Rattle.story_file.proofs.Laid.{story_laid, story_within}
use Rattle.story_file.proofs.write.story_with.Goals as goal

pub put_body-requires-clause-header : goal.put_body-requires-clause-header
put_body-requires-clause-header c = c.in-Ok.ensures ∙ ap (λ bs. length bs + 64) c.new-story.ensures.items

pub fill_header-requires-clause-words : goal.fill_header-requires-clause-words
fill_header-requires-clause-words c =
    let placed = c.requires.fits.placed in
    subst AreWords (sym c.part_places-at.ensures) (record {
      globals = omega arith;
      defaults = omega (arith, placed);
      dictionary = omega (arith, placed);
      start = omega (arith, placed);
    })

pub fill_header-requires-clause-kept : goal.fill_header-requires-clause-kept
fill_header-requires-clause-kept c =
    let kept = c.in-Ok.ensures ∙ ap (λ bs. length bs + 64) c.new-story.ensures.items in
    omega (
      arith,
      kept,
      ap length c.in-Ok-put_body.ensures,
      length-append c.keep_header.new.story.items (body_of c.args.version (program_of c.args.checked.now)),
    )

pub fill_header-requires-clause-length : goal.fill_header-requires-clause-length
fill_header-requires-clause-length c =
    let kept = c.in-Ok.ensures ∙ ap (λ bs. length bs + 64) c.new-story.ensures.items in
    story_within c.args.version (program_of c.args.checked.now) c.keep_header.new.story.items
    c.put_body.new.story.items c.requires.fits kept c.in-Ok-put_body.ensures

pub returns : goal.returns
returns c =
    let kept = c.in-Ok.ensures ∙ ap (λ bs. length bs + 64) c.new-story.ensures.items in
    story_laid c.args.version (program_of c.args.checked.now) c.part_places-at.result c.keep_header.new.story.items
    c.put_body.new.story.items c.fill_header.new.story.items kept c.in-Ok-put_body.ensures c.part_places-at.ensures
    c.in-Ok-fill_header.ensures
