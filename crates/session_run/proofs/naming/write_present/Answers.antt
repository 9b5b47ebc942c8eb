use Rattle.std.proofs.Common.{subst, refl, get_or, ◌∙◌, Some}
use Rattle.zcore.specs.Turn.{StateOfPlay}
use Rattle.zcore_standard.specs.declared.save_form.Purpose.TheVariants.{Saving}
use Rattle.session_lines.specs.Answers.{IsAnswered}
use Rattle.session_lines.specs.Files.{acts_for}
use Rattle.session_lines.proofs.Answering.{none_answered, reason_answered}
use Rattle.session.specs.Files.{file_on}
use Rattle.session.specs.Given.{IsSaveIn, is_own_with}
use Rattle.session.proofs.Given.{saved_file}
use Rattle.session.proofs.Sessions.{some_whole}
use Rattle.session_run.proofs.Given.{looked_at}
use Rattle.session_run.proofs.naming.write_present.Goals as goal

pub store-requires : goal.store-requires
store-requires g c =
    looked_at (is_own_with c.args.session.now.loaded) (g.F.Files.log c.args.files.now) c.args.name.now
    c.requires.looked

pub returns-in_err-file : goal.returns-in_err-file
returns-in_err-file g c = λ game s h.
    none_answered Saving c.args.name.now (file_on game s.done) (g.F.Files.log c.args.files.now) _ _
    c.from_residual.ensures.1

-- the file of the present state was written
pub returns-in-Some : goal.returns-in-Some
returns-in-Some g c = λ game s h.
    let present : StateOfPlay = get_or c.args.session.now.states c.args.session.now.present some_whole.state in
    subst (λ file. IsAnswered (acts_for (Some Saving) c.args.name.now file) (g.F.Files.log c.args.files.now)
    (g.F.Files.log c.store.new.files) c.store.result)
    (c.deref.ensures.value
    ∙ saved_file game s c.args.session.now some_whole.state c.in-Some.file Saving h (c.requires.asked game s h)
    (subst (IsSaveIn c.args.session.now.loaded present) c.in-Some.is (c.in_ok-file.ensures some_whole.state)))
    c.store.ensures

pub returns-in-None : goal.returns-in-None
returns-in-None g c = λ game s h.
    reason_answered Saving c.args.name.now (file_on game s.done) (g.F.Files.log c.args.files.now) 3 c.numbered.result
    refl c.numbered.ensures
