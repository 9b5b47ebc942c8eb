use Rattle.std.proofs.Common.{sym, subst}
use Rattle.play_json.specs.Objects.{IsLineOf, object_of}
use Rattle.play_json.proofs.Replying.{tells_by}
use Rattle.play_json.proofs.telling.tell_as.Goals as goal

pub returns-clause-told : goal.returns-clause-told
returns-clause-told g c = λ game a p m.
    tells_by game a c.args.first (g.W.Write.contents c.args.writer.now) (g.W.Write.contents c.tell.new.writer) c.in-Ok.reply
    c.as_bytes.result.now c.tell.result (c.in-Ok.ensures.says game a p m)
    (subst (IsLineOf (object_of c.in-Ok.reply)) (sym c.as_bytes.ensures.value) c.in-Ok-into_line.ensures) c.tell.ensures
