use Rattle.std.proofs.Common.{arith}
use Rattle.ztext.specs.Text.{decoded}
use Rattle.ztext.proofs.Fronts.{fault_behind}
use Rattle.ztext.proofs.Spelling.{bytes_from_index}
use Rattle.ztext.proofs.Printable.{decoded_printable}
use Rattle.ztext.proofs.text.append_front.Goals as goal

pub returns-clause-text : goal.returns-clause-text
unfolding decoded
returns-clause-text c = c.put_text.ensures.read

pub returns-clause-cause : goal.returns-clause-cause
unfolding decoded
returns-clause-cause c =
    fault_behind c.args.most c.args.text.now.items c.put_text.new.text.items c.args.story.now c.args.at
    c.put_text.result c.put_text.ensures.read

pub returns-clause-printable : goal.returns-clause-printable
returns-clause-printable c = decoded_printable c.args.story.now c.args.at
    (bytes_from_index c.args.story.now (λ i. omega (arith, c.type_inv.story i)))
