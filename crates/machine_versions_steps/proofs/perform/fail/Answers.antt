use Rattle.std.proofs.Common.{sym, ◌∙◌}
use Rattle.zcore_versions.specs.Versions.{versioned}
use Rattle.machine_versions_steps.proofs.Performing.{fails_by_branch, fails_by_result}
use Rattle.machine_versions_steps.proofs.perform.fail.Goals as goal

pub returns-then-is_small : goal.returns-then-is_small
returns-then-is_small c = λ loaded.
    fails_by_branch _ (versioned loaded c.args.version) c.args.here c.args.ending.after c.args.ending.result
    c.args.ending.branch (sym c.is_small.ensures ∙ c.if-is_small.true) c.branch_on.ensures

pub returns : goal.returns
returns c = λ loaded.
    fails_by_result _ (versioned loaded c.args.version) c.args.here c.args.ending.after c.args.ending.result
    c.args.ending.branch (sym c.is_small.ensures ∙ c.if-is_small.false) c.give_result.ensures
