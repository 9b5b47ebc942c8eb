use Rattle.std.proofs.Common.{sym, ◌∙◌}
use Rattle.play_json.proofs.Numbers.{mark_short, mark_long}
use Rattle.play_json.proofs.request.mark_in.Goals as goal

pub returns-then-line-lt4 : goal.returns-then-line-lt4
returns-then-line-lt4 c = sym (mark_short c.args.line.now c.if-line-lt4.true)

pub returns-else-line-lt4 : goal.returns-else-line-lt4
returns-else-line-lt4 c =
    c.number_of.ensures ∙ sym (mark_long c.args.line.now c.if-line-lt4.false)
