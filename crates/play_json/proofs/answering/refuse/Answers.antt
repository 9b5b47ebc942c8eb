use Rattle.std.proofs.Common.{ap}
use Rattle.play_json.specs.Said.{held}
use Rattle.play_json.proofs.Replying.{answers_by, long_says}
use Rattle.play_json.proofs.answering.refuse.Goals as goal

pub returns : goal.returns
returns g c = λ line lines long.
    answers_by line (g.W.Write.contents c.args.writer.now) (g.W.Write.contents c.tell_reply.new.writer)
    (held c.args.session.now lines) (held c.args.session.now lines) (held c.tell_reply.new.session lines) c.of.result
    c.tell_reply.result (long_says line (held c.args.session.now lines) c.of.result long c.of.ensures)
    c.tell_reply.ensures.told (ap (λ v. held v lines) c.tell_reply.ensures.same)
