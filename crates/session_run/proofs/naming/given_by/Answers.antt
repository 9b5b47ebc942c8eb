use Rattle.std.proofs.Common.{Some, Ok, Err, ◌∙◌, subst}
use Rattle.session_lines.specs.declared.answers.GivenFault.TheVariants.{Unkept}
use Rattle.session_lines.specs.Files.{acts_for}
use Rattle.session_lines.proofs.Answering.{acts_none}
use Rattle.session.specs.Files.{file_on}
use Rattle.session_run.specs.Acts.{is_own_on}
use Rattle.session_run.specs.Given.{IsAnsweredFor}
use Rattle.session_run.proofs.Given.{lost_for, none_for, same_for}
use Rattle.session_run.proofs.naming.given_by.Goals as goal

pub returns-in_err-name : goal.returns-in_err-name
returns-in_err-name g c = λ game s h.
    none_for (is_own_on game) c.args.purpose _ (file_on game s.done) (g.F.Files.log c.args.files.now)
    (g.F.Files.log c.args.files.now) _ _ (acts_none (is_own_on game) (g.F.Files.log c.args.files.now))
    c.from_residual.ensures.1

pub returns-in_err-given : goal.returns-in_err-given
returns-in_err-given g c = λ game s h.
    subst (λ name. IsAnsweredFor (is_own_on game) (acts_for (Some c.args.purpose) name (file_on game s.done))
    (g.F.Files.log c.args.files.now) (g.F.Files.log c.answer_with.new.files) c.from_residual-in_err-given.result)
    (c.deref.ensures.value ∙ c.in_ok-name.ensures)
    (lost_for (is_own_on game) _ (g.F.Files.log c.args.files.now) (g.F.Files.log c.answer_with.new.files) _ _ _
    c.from_residual-in_err-given.ensures.1 (c.answer_with.ensures game s h))

pub returns-in-Ok : goal.returns-in-Ok
returns-in-Ok g c = λ game s h.
    subst (λ name. IsAnsweredFor (is_own_on game) (acts_for (Some c.args.purpose) name (file_on game s.done))
    (g.F.Files.log c.args.files.now) (g.F.Files.log c.keep.new.self) (Ok c.in_ok-given.given))
    (c.deref.ensures.value ∙ c.in_ok-name.ensures)
    (same_for (is_own_on game) (acts_for (Some c.args.purpose) c.deref.result.now (file_on game s.done))
    (g.F.Files.log c.args.files.now) (g.F.Files.log c.answer_with.new.files) (g.F.Files.log c.keep.new.self) _
    c.keep.ensures (c.in_ok-given.ensures game s h))

pub returns : goal.returns
returns g c = λ game s h.
    subst (λ name. IsAnsweredFor (is_own_on game) (acts_for (Some c.args.purpose) name (file_on game s.done))
    (g.F.Files.log c.args.files.now) (g.F.Files.log c.keep.new.self) (Err Unkept))
    (c.deref.ensures.value ∙ c.in_ok-name.ensures)
    (same_for (is_own_on game) (acts_for (Some c.args.purpose) c.deref.result.now (file_on game s.done))
    (g.F.Files.log c.args.files.now) (g.F.Files.log c.answer_with.new.files) (g.F.Files.log c.keep.new.self) _
    c.keep.ensures
    (lost_for (is_own_on game) _ (g.F.Files.log c.args.files.now) (g.F.Files.log c.answer_with.new.files) _ _
    (λ _. Unit {0}) tt (c.answer_with.ensures game s h)))
