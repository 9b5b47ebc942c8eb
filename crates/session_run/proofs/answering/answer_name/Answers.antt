use Rattle.std.proofs.Common.{◌∙◌, subst, sym, true}
use Rattle.session.specs.Replies.{ScriptsReply}
use Rattle.session_lines.specs.Files.{LogsActs}
use Rattle.session_run.specs.Acts.{acts_on, is_own_on}
use Rattle.session_run.proofs.Marked.{given_is_plain, reply_marked, script_marked, script_plain}
use Rattle.session_run.proofs.Replying.{IsForStory, hears_given, hears_unmet}
use Rattle.session_run.proofs.answering.answer_name.Goals as goal

pub given_for-requires : goal.given_for-requires
given_for-requires g c = λ game s h. (c.requires.asked game s h).0

pub returns-then-is_marked : goal.returns-then-is_marked
returns-then-is_marked g c = λ game s h asks.
    let w = g.W.Write.contents c.args.writer.now in
    let w' = g.W.Write.contents c.tell_marked.new.writer in
    let l1 = g.F.Files.log c.given_for.new.files in
    let l' = g.F.Files.log c.tell_marked.new.files in
    let r = c.reply_given-reply.result in
    let new = c.reply_given-reply.follows.lender-at-none in
    let after = c.reply_given-reply.follows.holds-at-none in
    let given = c.in-Ok.ensures game s h in
    let to : IsForStory game c.args.line.now =
    record { undo = c.requires.undo; redo = c.requires.redo; asks = asks } in
    let e = sym (c.keeps_styles-is_marked.ensures game s h) ∙ c.if-is_marked.true in
    hears_given game w w' s c.args.session.now new (g.F.Files.log c.args.files.now) l1 l' c.args.line.now given.answer
    c.deref.result.now c.args.purpose r c.deref-then-is_marked.result.now c.tell_marked.result to
    (c.requires.asked game s h) given.logged (c.deref.ensures.value ∙ given.given)
    (c.reply_given-reply.ensures.says game s h)
    (subst (ScriptsReply game s c.deref.result.now r) (sym c.deref-then-is_marked.ensures.value)
    (c.reply_given-reply.ensures.script game s h)) after h
    (reply_marked game w w' s c.args.session.now new c.deref.result.now r c.notice_of-notice.result
    c.tell_marked.result e c.notice_of-notice.ensures after h c.tell_marked.ensures.text)
    (script_marked (is_own_on game) r c.notice_of-notice.result c.deref-then-is_marked.result.now l1 l'
    c.notice_of-notice.ensures c.tell_marked.ensures.script)

pub returns-else-is_marked : goal.returns-else-is_marked
returns-else-is_marked g c = λ game s h asks.
    let w = g.W.Write.contents c.args.writer.now in
    let w' = g.W.Write.contents c.tell_reply.new.writer in
    let r = c.reply_given-reply.result in
    let says = c.reply_given-reply.ensures.says game s h in
    let given = c.in-Ok.ensures game s h in
    let to : IsForStory game c.args.line.now =
    record { undo = c.requires.undo; redo = c.requires.redo; asks = asks } in
    let e = sym (c.keeps_styles-is_marked.ensures game s h) ∙ c.if-is_marked.false in
    hears_given game w w' s
    c.args.session.now c.reply_given-reply.follows.lender-at-none (g.F.Files.log c.args.files.now)
    (g.F.Files.log c.given_for.new.files) (g.F.Files.log c.tell_reply.new.files) c.args.line.now given.answer
    c.deref.result.now c.args.purpose r c.deref-in-Ok.result.now c.tell_reply.result to
    (c.requires.asked game s h) given.logged (c.deref.ensures.value ∙ given.given) says
    (subst (ScriptsReply game s c.deref.result.now r) (sym c.deref-in-Ok.ensures.value)
    (c.reply_given-reply.ensures.script game s h)) c.reply_given-reply.follows.holds-at-none h
    (given_is_plain game w w' s c.deref.result.now r c.tell_reply.result e says c.tell_reply.ensures.text)
    (script_plain (is_own_on game) r c.deref-in-Ok.result.now (g.F.Files.log c.given_for.new.files)
    (g.F.Files.log c.tell_reply.new.files) c.tell_reply.ensures.script)

pub returns-in-Err : goal.returns-in-Err
returns-in-Err g c = λ game s h asks.
    let given = c.in-Err.ensures game s h in
    let to : IsForStory game c.args.line.now =
    record { undo = c.requires.undo; redo = c.requires.redo; asks = asks } in
    hears_unmet game (g.W.Write.contents c.args.writer.now) (g.W.Write.contents c.tell_fault.new.writer) s
    c.args.session.now (g.F.Files.log c.args.files.now) (g.F.Files.log c.tell_fault.new.files) c.args.line.now
    given.answer c.args.purpose c.tell_fault.result to (c.requires.asked game s h)
    (subst (λ l. LogsActs (is_own_on game) (g.F.Files.log c.args.files.now) l
    (acts_on game s.done (record { line = c.args.line.now; answer = given.answer; refused = true })))
    (sym c.tell_fault.ensures.log) given.logged) h c.tell_fault.ensures.text
