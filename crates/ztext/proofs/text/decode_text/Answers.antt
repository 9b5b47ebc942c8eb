use Rattle.std.proofs.Common.{arith}
use Rattle.ztext.specs.Text.{decoded}
use Rattle.ztext.proofs.Fronts.{gives_whole}
use Rattle.ztext.proofs.text.decode_text.Goals as goal

pub returns-clause-text : goal.returns-clause-text
returns-clause-text c = gives_whole 18446744073709551615 c.decode_front.result
    (decoded c.args.story.now c.args.at) (omega arith)
    c.decode_front.ensures.room c.decode_front.ensures.text
