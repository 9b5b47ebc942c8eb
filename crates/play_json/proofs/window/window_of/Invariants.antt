use Rattle.std.proofs.Common.{◌≡◌, ◌++◌, [], length, map}
use Rattle.serde_json.specs.View.{view}
use Rattle.play_json.specs.Windows.{rows_from}
use Rattle.play_json.proofs.window.window_of.Given as goal

-- the rows that were read and those that are still to be read are those of the text
abbrev pub invariant-loop-text : goal.invariant-loop-text
invariant-loop-text l = map view l.rows.items ++ rows_from l.row.items l.text ≡ rows_from [] l.fn.text

abbrev pub decreases-loop-text : goal.decreases-loop-text
decreases-loop-text l = length l.text
