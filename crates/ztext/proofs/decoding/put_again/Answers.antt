use Rattle.std.proofs.Common.{arith}
use Rattle.ztext.proofs.Copies.{added}
use Rattle.ztext.proofs.decoding.put_again.Goals as goal

pub returns-clause-adds : goal.returns-clause-adds
returns-clause-adds c =
    added c.extend_from_within.result c.args.most c.args.from.start c.args.from.length c.min-length.result
    c.args.text.now.items c.extend_from_within.new.self.items c.requires.room (omega arith)
    c.extend_from_within.ensures.items
