use Rattle.std.proofs.Common.{◌∙◌, subst, sym}
use Rattle.session.specs.Replies.{ScriptsReply}
use Rattle.session_run.specs.Acts.{is_own_on}
use Rattle.session_run.proofs.Marked.{reply_marked, reply_plain, script_marked, script_plain}
use Rattle.session_run.proofs.Replying.{IsForStory, hears_reply}
use Rattle.session_run.proofs.answering.answer_story.Goals as goal

pub returns-in-Some : goal.returns-in-Some
returns-in-Some g c = λ game s h asks. c.answer_name.ensures game s h asks

pub returns-then-is_marked : goal.returns-then-is_marked
returns-then-is_marked g c = λ game s h asks.
    let w = g.W.Write.contents c.args.writer.now in
    let w' = g.W.Write.contents c.tell_marked.new.writer in
    let l = g.F.Files.log c.args.files.now in
    let l' = g.F.Files.log c.tell_marked.new.files in
    let r = c.reply_scripted-reply.result in
    let new = c.reply_scripted-reply.follows.lender-at-none in
    let after = c.reply_scripted-reply.follows.holds-at-none in
    let to : IsForStory game c.args.line.now =
    record { undo = c.requires.undo; redo = c.requires.redo; asks = asks } in
    let e = sym (c.keeps_styles-is_marked.ensures game s h) ∙ c.if-is_marked.true in
    hears_reply game w w' s c.args.session.now new l l' c.args.line.now r c.deref.result.now c.tell_marked.result to
    (c.in-None.ensures.asked game s h) (c.reply_scripted-reply.ensures.says game s h)
    (subst (ScriptsReply game s c.args.line.now r) (sym c.deref.ensures.value)
    (c.reply_scripted-reply.ensures.script game s h)) after h
    (reply_marked game w w' s c.args.session.now new c.args.line.now r c.notice_of-notice.result c.tell_marked.result e
    c.notice_of-notice.ensures after h c.tell_marked.ensures.text)
    (script_marked (is_own_on game) r c.notice_of-notice.result c.deref.result.now l l' c.notice_of-notice.ensures
    c.tell_marked.ensures.script)

pub returns-else-is_marked : goal.returns-else-is_marked
returns-else-is_marked g c = λ game s h asks.
    let w = g.W.Write.contents c.args.writer.now in
    let w' = g.W.Write.contents c.tell_reply.new.writer in
    let r = c.reply_scripted-reply.result in
    let says = c.reply_scripted-reply.ensures.says game s h in
    let to : IsForStory game c.args.line.now =
    record { undo = c.requires.undo; redo = c.requires.redo; asks = asks } in
    let e = sym (c.keeps_styles-is_marked.ensures game s h) ∙ c.if-is_marked.false in
    hears_reply game w w' s
    c.args.session.now c.reply_scripted-reply.follows.lender-at-none (g.F.Files.log c.args.files.now)
    (g.F.Files.log c.tell_reply.new.files) c.args.line.now r c.deref-in-None.result.now
    c.tell_reply.result to (c.in-None.ensures.asked game s h) says
    (subst (ScriptsReply game s c.args.line.now r) (sym c.deref-in-None.ensures.value)
    (c.reply_scripted-reply.ensures.script game s h)) c.reply_scripted-reply.follows.holds-at-none h
    (reply_plain game w w' s c.args.line.now r c.tell_reply.result e says c.tell_reply.ensures.text)
    (script_plain (is_own_on game) r c.deref-in-None.result.now (g.F.Files.log c.args.files.now)
    (g.F.Files.log c.tell_reply.new.files) c.tell_reply.ensures.script)
