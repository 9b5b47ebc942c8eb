use Rattle.machine_frames.proofs.Steps.{went_err}
use Rattle.machine_small_entries.proofs.Listing.{list_begins, no_table, no_words}
use Rattle.machine_versions.proofs.properties.property_list.Goals as goal

pub returns-in_err-table : goal.returns-in_err-table
returns-in_err-table c = went_err _ c.from_residual.ensures.1 (no_table _ c.args.object _ c.in_err-table.ensures)

pub returns-in_err-words : goal.returns-in_err-words
returns-in_err-words c = went_err _ c.from_residual-in_err-words.ensures.1
    (no_words _ c.args.object _ _ c.in_ok-table.ensures c.in_err-words.ensures)

pub returns : goal.returns
returns c = list_begins _ c.args.object _ _ c.requires.sound c.in_ok-table.ensures c.in_ok-words.ensures
