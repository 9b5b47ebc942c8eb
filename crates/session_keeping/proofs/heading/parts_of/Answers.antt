use Rattle.std.proofs.Common.{rules}
use Rattle.session_keeping.proofs.Headings.{three_lines}
use Rattle.session_keeping.proofs.heading.parts_of.Goals as goal

pub returns : goal.returns
returns c =
    three_lines c.args.text.now c.in_ok-format.format.now c.in_ok-story.story.now c.in_ok-options.options.now
    c.in_ok-options.lines.now c.in_ok-format.rest.now c.in_ok-story.rest.now c.in_ok-format.ensures.0 (search rules)
    c.in_ok-story.ensures.0 c.in_ok-options.ensures.0
