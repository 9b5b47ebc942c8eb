use Rattle.std.proofs.Common.{◌≡◌, refl, subst, true, Some}
use Rattle.zcore_standard.specs.declared.save_form.Purpose.TheVariants.{Saving}
use Rattle.session_lines.proofs.Answering.{acts_look, acts_none, acts_same}
use Rattle.session_lines.specs.Files.{may_be_written, seen_by}
use Rattle.session.specs.Files.{file_on}
use Rattle.session.specs.Given.{is_own_with}
use Rattle.session_run.specs.Acts.{is_own_on}
use Rattle.session_run.proofs.Given.{may_be, may_write_after, none_for, reason_for, saved_for}
use Rattle.session_run.proofs.naming.save.Goals as goal

pub returns-in_err-can_succeed : goal.returns-in_err-can_succeed
returns-in_err-can_succeed g c = λ game s h.
    none_for (is_own_on game) Saving c.args.name.now (file_on game s.done) (g.F.Files.log c.args.files.now)
    (g.F.Files.log c.args.files.now) _ _ (acts_none (is_own_on game) (g.F.Files.log c.args.files.now))
    c.from_residual.ensures.1

pub returns-then-not-branch : goal.returns-then-not-branch
returns-then-not-branch g c = λ game s h.
    reason_for (is_own_on game) c.args.name.now (file_on game s.done) (g.F.Files.log c.args.files.now)
    (g.F.Files.log c.args.files.now) 3 c.numbered.result refl
    (acts_none (is_own_on game) (g.F.Files.log c.args.files.now)) c.numbered.ensures

-- something else has the name
pub returns-then-not-may_write : goal.returns-then-not-may_write
returns-then-not-may_write g c = λ game s h.
    reason_for (is_own_on game) c.args.name.now (file_on game s.done) (g.F.Files.log c.args.files.now)
    (g.F.Files.log c.look.new.self) 2 c.numbered-then-not-may_write.result refl
    (acts_look (is_own_on game) (g.F.Files.log c.args.files.now) (g.F.Files.log c.look.new.self) c.args.name.now
    (seen_by c.in-Ok.is_there c.look.new.head.items) c.in-Ok.ensures.ok) c.numbered-then-not-may_write.ensures

pub write_present-requires-clause-looked : goal.write_present-requires-clause-looked
write_present-requires-clause-looked g c =
    let is_own = is_own_with c.args.session.now.loaded in
    may_write_after is_own (g.F.Files.log c.args.files.now) (g.F.Files.log c.look.new.self) c.args.name.now
    (seen_by c.in-Ok.is_there c.look.new.head.items) c.in-Ok.ensures.ok
    (may_be is_own c.in-Ok.is_there c.deref.ensures.value c.may_write.ensures c.if-not-may_write.false)

pub returns-in-Ok : goal.returns-in-Ok
returns-in-Ok g c = λ game s h.
    let seen = seen_by c.in-Ok.is_there c.look.new.head.items in
    saved_for (is_own_on game) c.args.name.now (file_on game s.done) seen (g.F.Files.log c.args.files.now)
    (g.F.Files.log c.look.new.self) (g.F.Files.log c.write_present.new.files) c.write_present.result
    c.in-Ok.ensures.ok
    (subst (λ l. may_be_written (is_own_with l) seen ≡ true) h.loaded
    (may_be (is_own_with c.args.session.now.loaded) c.in-Ok.is_there c.deref.ensures.value c.may_write.ensures
    c.if-not-may_write.false))
    (c.write_present.ensures game s h)

pub returns-in-Err-File : goal.returns-in-Err-File
returns-in-Err-File g c = λ game s h.
    reason_for (is_own_on game) c.args.name.now (file_on game s.done) (g.F.Files.log c.args.files.now)
    (g.F.Files.log c.look.new.self) 3 c.numbered-in-Err-File.result refl
    (acts_same (is_own_on game) (g.F.Files.log c.args.files.now) (g.F.Files.log c.look.new.self)
    c.in-Err-File.ensures.err) c.numbered-in-Err-File.ensures

pub returns : goal.returns
returns g c = λ game s h.
    none_for (is_own_on game) Saving c.args.name.now (file_on game s.done) (g.F.Files.log c.args.files.now)
    (g.F.Files.log c.look.new.self) _ (λ _. Unit {0})
    (acts_same (is_own_on game) (g.F.Files.log c.args.files.now) (g.F.Files.log c.look.new.self)
    c.in-Err-Memory.ensures.err) tt
