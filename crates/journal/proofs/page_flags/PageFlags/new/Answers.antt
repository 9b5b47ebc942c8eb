use Rattle.journal.specs.Pages.{pages_in_place}
use Rattle.journal.proofs.Flags.{none_set}
use Rattle.journal.proofs.page_flags.PageFlags.new.Goals as goal

pub returns : goal.returns
returns c = none_set pages_in_place _ c.new.ensures.items
