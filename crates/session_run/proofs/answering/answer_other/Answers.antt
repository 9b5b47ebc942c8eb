use Rattle.std.proofs.Common.{◌≡◌, ◌∙◌, refl, sym, true, false, codes, subst}
use Rattle.session.specs.Game.{IsSessionOf, answer}
use Rattle.session_lines.specs.Transcript.{Answer, Typed}
use Rattle.session_run.specs.Heard.{asked_reply}
use Rattle.session_run.proofs.Replying.{hears_quiet, plain, tested, at_asked}
use Rattle.session_run.proofs.Scripting.{quiet_line}
use Rattle.session_run.proofs.answering.answer_other.Goals as goal

pub returns-then-eq : goal.returns-then-eq
returns-then-eq g c = λ game s p.
    c.answer_redo.ensures game s c.args.line.now p c.requires
    (tested c.args.line.now (codes "/redo") c.as_slice.result.now c.eq.result true c.as_slice.ensures c.eq.ensures
    c.if-eq.true)

pub returns-then-asks : goal.returns-then-asks
returns-then-asks g c = λ game s p.
    let told = c.answer_status.ensures.says game s p in
    let redo = tested c.args.line.now (codes "/redo") c.as_slice.result.now c.eq.result false c.as_slice.ensures
    c.eq.ensures c.if-eq.false in
    let x : Typed = plain c.args.line.now told.0 in
    let a : Answer = record { reply = asked_reply game s told.0; standing = s } in
    let at : answer game s x ≡ a = at_asked game s x c.requires redo (sym (c.asks.ensures game s p) ∙ c.if-asks.true) in
    hears_quiet game (g.W.Write.contents c.args.writer.now) (g.W.Write.contents c.answer_status.new.writer) s
    c.answer_status.new.session (g.F.Files.log c.args.files.now) c.args.line.now told.0 a c.answer_status.result at
    (subst (IsSessionOf game s) (sym c.answer_status.ensures.same) p) (quiet_line game s x a c.requires redo at refl)
    told.1

pub answer_story-requires-clause-redo : goal.answer_story-requires-clause-redo
answer_story-requires-clause-redo g c = tested c.args.line.now (codes "/redo") c.as_slice.result.now c.eq.result false
    c.as_slice.ensures c.eq.ensures c.if-eq.false

pub returns-else-asks : goal.returns-else-asks
returns-else-asks g c = λ game s p. c.answer_story.ensures game s p (sym (c.asks.ensures game s p) ∙ c.if-asks.false)
