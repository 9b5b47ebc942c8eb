use Rattle.std.proofs.Common.{◌∙◌, refl, sym, ℕ, ◌∷◌, List, [], false, ◌++◌, codes, subst}
use Rattle.session.specs.Game.{told_on}
use Rattle.session_lines.specs.Standing.{redo_of}
use Rattle.session_lines.specs.Transcript.{note}
use Rattle.session_lines.specs.Wrote.{WroteText}
use Rattle.session_lines.proofs.Answering.{acts_then}
use Rattle.session_run.specs.Acts.{Leaves, adding_if, is_own_on}
use Rattle.session_run.proofs.Replying.{broke_plain, hears_err, hears_plain, hears_quiet, plain, absent, at_redo}
use Rattle.session_run.proofs.Replying.{redo_some, redo_none}
use Rattle.session_run.proofs.Marked.{acts_adding_if, told_marked, told_plain}
use Rattle.session_run.proofs.Scripting.{acts_redo, redo_adds, redo_quiet}
use Rattle.session_lines.proofs.Telling.{wrote_both, wrote_first}
use Rattle.session_run.proofs.answering.answer_redo.Goals as goal

pub returns-in_err-put-in-Some : goal.returns-in_err-put-in-Some
returns-in_err-put-in-Some g c = λ game s line p d e.
    let w = g.W.Write.contents c.args.writer.now in
    let w' = g.W.Write.contents c.put.new.writer in
    let l = g.F.Files.log c.args.files.now in
    let l1 = g.F.Files.log c.add_if.new.files in
    let l2 = g.F.Files.log c.add_if-in-Some.new.files in
    let is_on = c.is_scripting-is_scripting.result in
    let text = c.in-Some.text.now in
    let some = (c.in-Some.ensures.found game s p).0 refl in
    hears_err game w w' s (Leaves game s c.redo.follows.lender-at-none l l2) (line ∷ []) c.from_residual.result
    c.from_residual.ensures.0
    (broke_plain game w w' s c.redo.follows.lender-at-none l l2 line false
    (record { reply = note (codes "[Redone.]") ++ told_on game (redo_of s).done; standing = redo_of s })
    (adding_if is_on (codes "/redo\n[Redone.]\n") ++ adding_if is_on text)
    (at_redo game s (plain line false) d e ∙ redo_some game s some)
    (c.redo.follows.holds-at-none.stands game s p)
    (acts_redo game s (plain line false) d e
    ∙ redo_adds game s is_on text some (c.is_scripting-is_scripting.ensures game s p) (c.in-Some.ensures.text game s p))
    (acts_then (is_own_on game) l l1 l2 (adding_if is_on (codes "/redo\n[Redone.]\n")) (adding_if is_on text)
    (acts_adding_if (is_own_on game) l l1 is_on (codes "/redo\n[Redone.]\n") c.add_if.ensures)
    (acts_adding_if (is_own_on game) l1 l2 is_on text c.add_if-in-Some.ensures))
    (wrote_first (told_on game (redo_of s).done) c.in_err-put-in-Some.ensures))

pub returns-then-is_marked : goal.returns-then-is_marked
returns-then-is_marked g c = λ game s line p d e.
    let w = g.W.Write.contents c.args.writer.now in
    let w1 = g.W.Write.contents c.put.new.writer in
    let w' = g.W.Write.contents c.tell.new.writer in
    let l = g.F.Files.log c.args.files.now in
    let l1 = g.F.Files.log c.add_if.new.files in
    let l2 = g.F.Files.log c.add_if-in-Some.new.files in
    let is_on = c.is_scripting-is_scripting.result in
    let text = c.in-Some.text.now in
    let styled = sym (c.keeps_styles-is_marked.ensures game s p) ∙ c.if-is_marked.true in
    let some = (c.in-Some.ensures.found game s p).0 refl in
    hears_plain game w w' s c.redo.follows.lender-at-none l l2 line false
    (record { reply = note (codes "[Redone.]") ++ told_on game (redo_of s).done; standing = redo_of s })
    (adding_if is_on (codes "/redo\n[Redone.]\n") ++ adding_if is_on text) c.tell.result
    (at_redo game s (plain line false) d e ∙ redo_some game s some)
    (c.redo.follows.holds-at-none.stands game s p)
    (acts_redo game s (plain line false) d e
    ∙ redo_adds game s is_on text some (c.is_scripting-is_scripting.ensures game s p) (c.in-Some.ensures.text game s p))
    (acts_then (is_own_on game) l l1 l2 (adding_if is_on (codes "/redo\n[Redone.]\n")) (adding_if is_on text)
    (acts_adding_if (is_own_on game) l l1 is_on (codes "/redo\n[Redone.]\n") c.add_if.ensures)
    (acts_adding_if (is_own_on game) l1 l2 is_on text c.add_if-in-Some.ensures))
    (wrote_both w w1 w' (note (codes "[Redone.]")) (told_on game (redo_of s).done) c.tell.result
    c.in_ok-put-in-Some.ensures
    (subst (λ (t : List ℕ). WroteText w1 w' t c.tell.result)
    (c.marked.ensures game (redo_of s) (c.redo.follows.holds-at-none.stands game s p)
    ∙ told_marked game (redo_of s).done styled) c.tell.ensures))

pub returns-else-is_marked : goal.returns-else-is_marked
returns-else-is_marked g c = λ game s line p d e.
    let w = g.W.Write.contents c.args.writer.now in
    let w1 = g.W.Write.contents c.put.new.writer in
    let w' = g.W.Write.contents c.tell-in-Some.new.writer in
    let l = g.F.Files.log c.args.files.now in
    let l1 = g.F.Files.log c.add_if.new.files in
    let l2 = g.F.Files.log c.add_if-in-Some.new.files in
    let is_on = c.is_scripting-is_scripting.result in
    let text = c.in-Some.text.now in
    let styled = sym (c.keeps_styles-is_marked.ensures game s p) ∙ c.if-is_marked.false in
    let some = (c.in-Some.ensures.found game s p).0 refl in
    hears_plain game w w' s c.redo.follows.lender-at-none l l2 line false
    (record { reply = note (codes "[Redone.]") ++ told_on game (redo_of s).done; standing = redo_of s })
    (adding_if is_on (codes "/redo\n[Redone.]\n") ++ adding_if is_on text) c.tell-in-Some.result
    (at_redo game s (plain line false) d e ∙ redo_some game s some)
    (c.redo.follows.holds-at-none.stands game s p)
    (acts_redo game s (plain line false) d e
    ∙ redo_adds game s is_on text some (c.is_scripting-is_scripting.ensures game s p) (c.in-Some.ensures.text game s p))
    (acts_then (is_own_on game) l l1 l2 (adding_if is_on (codes "/redo\n[Redone.]\n")) (adding_if is_on text)
    (acts_adding_if (is_own_on game) l l1 is_on (codes "/redo\n[Redone.]\n") c.add_if.ensures)
    (acts_adding_if (is_own_on game) l1 l2 is_on text c.add_if-in-Some.ensures))
    (wrote_both w w1 w' (note (codes "[Redone.]")) (told_on game (redo_of s).done) c.tell-in-Some.result
    c.in_ok-put-in-Some.ensures
    (subst (λ (t : List ℕ). WroteText w1 w' t c.tell-in-Some.result)
    (c.in-Some.ensures.text game s p ∙ told_plain game (redo_of s).done styled) c.tell-in-Some.ensures))

pub returns-in-None : goal.returns-in-None
returns-in-None g c = λ game s line p d e.
    let none = absent _ ((c.in-None.ensures.found game s p).1) in
    hears_quiet game (g.W.Write.contents c.args.writer.now) (g.W.Write.contents c.tell-in-None.new.writer) s
    c.redo.follows.lender-at-none (g.F.Files.log c.args.files.now) line false
    (record { reply = note (codes "[Nothing to redo.]"); standing = redo_of s }) c.tell-in-None.result
    (at_redo game s (plain line false) d e ∙ redo_none game s none)
    (c.redo.follows.holds-at-none.stands game s p)
    (acts_redo game s (plain line false) d e ∙ redo_quiet game s none) c.tell-in-None.ensures
