use Rattle.std.proofs.Common.{◌-◌, arith, drop, length, take}
use Rattle.std.proofs.lemmas.List.{length-drop, length-take, length-take-le}
use Rattle.machine_picture.proofs.Showing.{part_above, part_below, shown_above, shown_below}
use Rattle.machine_picture.proofs.lines.shown_of.Goals as goal

-- the lower window
pub returns-then-window-eq-LOWER : goal.returns-then-window-eq-LOWER
returns-then-window-eq-LOWER c = record {
  kept = omega (arith, c.min-from.ensures);
  within = tt;
  left = λ each le. shown_below c.args.upper c.args.window c.min-from.result c.args.text.now each
      (omega (arith, c.min-from.ensures)) c.if-window-eq-LOWER.true;
  part = part_below c.args.upper c.args.window c.args.text.now c.if-window-eq-LOWER.true;
}

pub returns : goal.returns
returns c =
    let text = c.args.text.now in
    let from = c.min-from.result in
    record {
      kept = omega arith;
      within = record {
        inside = omega (
          arith,
          c.min-from.ensures,
          c.bare_length-bare.ensures.within,
          length-take (length text - from) (drop from text),
          length-drop from text,
        );
        few = c.missing_lines-new_lines.ensures.few;
      };
      left = λ each le. shown_above c.args.upper c.args.window from c.missing_lines-new_lines.result
          c.bare_length-bare.result text (take (length text) each) (omega (arith, c.min-from.ensures))
          c.if-window-eq-LOWER.false (length-take-le (length text) each le) c.missing_lines-new_lines.ensures.lines
          c.bare_length-bare.ensures.bare;
      part = part_above c.args.upper c.args.window from c.missing_lines-new_lines.result c.bare_length-bare.result
          c.missing_lines-last.result text (omega (arith, c.min-from.ensures)) c.if-window-eq-LOWER.false
          c.missing_lines-new_lines.ensures.lines c.bare_length-bare.ensures.bare c.missing_lines-last.ensures.lines;
    }
