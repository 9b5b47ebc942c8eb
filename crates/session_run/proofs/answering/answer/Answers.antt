use Rattle.std.proofs.Common.{◌∙◌, refl, true, false, codes}
use Rattle.session_lines.specs.Standing.{undo_of}
use Rattle.session_lines.specs.Transcript.{note}
use Rattle.session_run.specs.Acts.{adding_if, is_own_on}
use Rattle.session_run.proofs.Marked.{acts_adding_if}
use Rattle.session_run.proofs.Replying.{hears_plain, hears_quiet, plain, absent, tested, at_undo, undo_some, undo_none}
use Rattle.session_run.proofs.Scripting.{acts_undo, undo_adds, undo_quiet}
use Rattle.session_run.proofs.answering.answer.Goals as goal

pub answer_other-requires : goal.answer_other-requires
answer_other-requires g c = tested c.args.line.now (codes "/undo") c.as_slice.result.now c.eq.result false
    c.as_slice.ensures c.eq.ensures c.if-eq.false

pub returns-then-undo : goal.returns-then-undo
returns-then-undo g c = λ game s p.
    let is_undo = tested c.args.line.now (codes "/undo") c.as_slice.result.now c.eq.result true c.as_slice.ensures
    c.eq.ensures c.if-eq.true in
    let some = (c.if-undo.ensures.found game s p).0 refl in
    hears_plain game (g.W.Write.contents c.args.writer.now) (g.W.Write.contents c.tell.new.writer) s
    c.undo.new.self (g.F.Files.log c.args.files.now) (g.F.Files.log c.add_if.new.files) c.args.line.now false
    (record { reply = note (codes "[Undone.]"); standing = undo_of s })
    (adding_if c.is_scripting-is_scripting.result (codes "/undo\n[Undone.]\n")) c.tell.result
    (at_undo game s (plain c.args.line.now false) is_undo ∙ undo_some s some) (c.undo.ensures.undone game s p)
    (acts_undo game s (plain c.args.line.now false) is_undo
    ∙ undo_adds game s c.is_scripting-is_scripting.result some (c.is_scripting-is_scripting.ensures game s p))
    (acts_adding_if (is_own_on game) (g.F.Files.log c.args.files.now) (g.F.Files.log c.add_if.new.files)
    c.is_scripting-is_scripting.result (codes "/undo\n[Undone.]\n") c.add_if.ensures) c.tell.ensures

pub returns-else-undo : goal.returns-else-undo
returns-else-undo g c = λ game s p.
    let is_undo = tested c.args.line.now (codes "/undo") c.as_slice.result.now c.eq.result true c.as_slice.ensures
    c.eq.ensures c.if-eq.true in
    let none = absent _ ((c.if-undo.ensures.found game s p).1) in
    hears_quiet game (g.W.Write.contents c.args.writer.now) (g.W.Write.contents c.tell-else-undo.new.writer) s
    c.undo.new.self (g.F.Files.log c.args.files.now) c.args.line.now false
    (record { reply = note (codes "[Nothing to undo.]"); standing = undo_of s }) c.tell-else-undo.result
    (at_undo game s (plain c.args.line.now false) is_undo ∙ undo_none s none) (c.undo.ensures.undone game s p)
    (acts_undo game s (plain c.args.line.now false) is_undo ∙ undo_quiet game s none) c.tell-else-undo.ensures
