use Rattle.std.proofs.Common.{Some, ap, sym, ◌∙◌, subst}
use Rattle.zcore_standard.specs.declared.save_form.Purpose.{Purpose}
use Rattle.session_lines.specs.Files.{acts_for}
use Rattle.session.specs.Files.{file_on}
use Rattle.session_run.specs.Acts.{is_own_on}
use Rattle.session_run.specs.Given.{IsAnsweredFor}
use Rattle.session_run.proofs.Given.{loaded_for}
use Rattle.session_run.proofs.naming.answer_with.Goals as goal

pub save-requires : goal.save-requires
save-requires g c = λ game s h. c.requires game s h ∙ ap (λ (p : Purpose). Some p) c.in-Saving.is

pub returns-in-Saving : goal.returns-in-Saving
returns-in-Saving g c = λ game s h.
    subst (λ p. IsAnsweredFor (is_own_on game) (acts_for (Some p) c.args.name.now (file_on game s.done))
    (g.F.Files.log c.args.files.now) (g.F.Files.log c.save.new.files) c.save.result) (sym c.in-Saving.is)
    (c.save.ensures game s h)

pub returns-in-Restoring : goal.returns-in-Restoring
returns-in-Restoring g c = λ game s h.
    subst (λ p. IsAnsweredFor (is_own_on game) (acts_for (Some p) c.args.name.now (file_on game s.done))
    (g.F.Files.log c.args.files.now) (g.F.Files.log c.load.new.files) c.load.result) (sym c.in-Restoring.is)
    (loaded_for (is_own_on game) c.args.name.now (file_on game s.done) (g.F.Files.log c.args.files.now)
    (g.F.Files.log c.load.new.files) c.load.result (c.load.ensures (file_on game s.done)))
