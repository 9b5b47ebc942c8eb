use Rattle.std.proofs.Common.{inl, inr, subst, sym}
use Rattle.zcore_standard.specs.Saving.{test_success}
use Rattle.zcore_standard.specs.declared.save_form.SaveForm.{SaveForm}
use Rattle.machine_frames.specs.Went.{Went}
use Rattle.machine_standard_saves.proofs.Answering.{branch_untested, test_goes, test_stored}
use Rattle.machine_standard_saves.proofs.answers.test_success.Goals as goal

pub returns-in_err-branch-in-Branch : goal.returns-in_err-branch-in-Branch
returns-in_err-branch-in-Branch c =
    branch_untested _ _ c.args.form c.args.store.now c.args.place c.from_residual.ensures.1 c.in-Branch.is c.requires
    c.in_err-branch-in-Branch.ensures

pub returns-in_ok-branch-in-Branch : goal.returns-in_ok-branch-in-Branch
returns-in_ok-branch-in-Branch c =
    subst (λ (f : SaveForm). Went c.test_branch.result c.args.store.now c.args.store.now (test_success f c.args.place))
    (sym c.in-Branch.is)
    (test_goes c.test_branch.result _ c.args.place _ c.in_ok-branch-in-Branch.ensures c.test_branch.ensures)

pub returns-in-Result : goal.returns-in-Result
returns-in-Result c =
    test_stored c.test_result.result c.args.form c.args.place c.byte_at.result (inl c.in-Result.is) c.byte_at.ensures
    c.test_result.ensures

pub returns-in-Extended : goal.returns-in-Extended
returns-in-Extended c =
    test_stored c.test_result-in-Extended.result c.args.form c.args.place c.byte_at-in-Extended.result
    (inr c.in-Extended.is) c.byte_at-in-Extended.ensures c.test_result-in-Extended.ensures
