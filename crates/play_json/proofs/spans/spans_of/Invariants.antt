use Rattle.std.proofs.Common.{◌≡◌, ◌+◌, ◌≤◌, ◌++◌, false, length, map}
use Rattle.serde_json.specs.View.{view}
use Rattle.play_json.specs.Spans.{plain, spans_from}
use Rattle.play_json.proofs.spans.spans_of.Given as goal

-- the spans that were read and those that are still to be read are those of the text
abbrev pub invariant-loop-marked : goal.invariant-loop-marked
invariant-loop-marked l = record {
  spans : map view l.spans.items ++ spans_from l.style l.start l.at l.is_in_mark l.marked
      ≡ spans_from plain 0 0 false l.fn.marked;
  begun : l.start ≤ l.at;
  within : l.at + length l.marked ≤ length l.fn.marked;
}

abbrev pub decreases-loop-marked : goal.decreases-loop-marked
decreases-loop-marked l = length l.marked
