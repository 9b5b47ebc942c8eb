use Rattle.std.proofs.Common.{ap, subst}
use Rattle.play_json.specs.Said.{Says, held}
use Rattle.play_json.proofs.Replying.{answers_by, answers_none}
use Rattle.play_json.proofs.answering.answer.Goals as goal

pub returns-in-Ok : goal.returns-in-Ok
returns-in-Ok g c =
    answers_by c.args.line.now (g.W.Write.contents c.args.writer.now) (g.W.Write.contents c.tell_reply.new.writer)
    (held c.args.session.now c.args.lines.now) (held c.say.new.session c.say.new.lines)
    (held c.tell_reply.new.session c.say.new.lines) c.in-Ok.said c.tell_reply.result
    (subst (Says c.args.line.now (held c.args.session.now c.args.lines.now) (held c.say.new.session c.say.new.lines))
    c.in-Ok.is c.say.ensures)
    c.tell_reply.ensures.told (ap (λ v. held v c.say.new.lines) c.tell_reply.ensures.same)

pub returns-in-Err : goal.returns-in-Err
returns-in-Err g c =
    answers_none c.args.line.now (g.W.Write.contents c.args.writer.now) (held c.args.session.now c.args.lines.now)
    (held c.say.new.session c.say.new.lines)
    (subst (Says c.args.line.now (held c.args.session.now c.args.lines.now) (held c.say.new.session c.say.new.lines))
    c.in-Err.is c.say.ensures)
