use Rattle.std.proofs.Common.{◌≡◌, true, sym, subst}
use Rattle.std.specs.List.{list_all}
use Rattle.ztext.specs.Alphabets.{is_printable}
use Rattle.story_file.proofs.AbbreviationTables.{printable_at}
use Rattle.story_file.proofs.below.z_texts.Goals as goal

pub add_text-requires : goal.add_text-requires
add_text-requires c =
    subst (λ cs. list_all is_printable cs ≡ true) (sym c.deref.ensures.value)
    (printable_at c.args.abbreviations.now c.loop-abbreviation.abbreviation-index c.abbreviation-item.result c.requires
    c.loop-abbreviation-test.true c.abbreviation-item.is)
