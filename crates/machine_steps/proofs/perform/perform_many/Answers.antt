use Rattle.std.proofs.Common.{ℕ, List, sym, subst, ap, ◌∙◌, length, slice_index}
use Rattle.zcore.specs.Execution.{perform, equals_any}
use Rattle.zcore.specs.Parts.{branch_on}
use Rattle.machine_frames.specs.Went.{Went}
use Rattle.machine_steps.proofs.Performing.{two_values, compares, others}
use Rattle.machine_steps.proofs.perform.perform_many.Goals as goal

pub returns-then-values-eq2 : goal.returns-then-values-eq2
unfolding perform
returns-then-values-eq2 c = subst
    (λ (l : List ℕ). Went c.perform_two.result c.args.store.now c.perform_two.new.store
    (perform c.args.operation c.args.here c.args.ending.after c.args.ending.result c.args.ending.branch l))
    (sym (two_values c.args.values.now c.if-values-eq2.true)) c.perform_two.ensures

pub returns : goal.returns
unfolding perform
returns c =
    rw (compares c.args.operation (length c.args.values.now) c.requires.count c.requires.enough c.requires.few
    c.if-values-eq2.false)
    (subst (λ b. Went c.branch_on.result c.args.store.now c.branch_on.new.store
    (branch_on c.args.here c.args.ending.after c.args.ending.branch b))
    (c.equals_any-holds.ensures ∙ ap (equals_any (slice_index c.args.values.now 0)) (others c.args.values.now))
    c.branch_on.ensures)
