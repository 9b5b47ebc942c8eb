use Rattle.std.proofs.Common.{ap, sym, ◌∙◌}
use Rattle.machine_standard_objects.proofs.Performing.{nothing_went, forgiven_went, known_went, is_several, no_flags, two_plain}
use Rattle.machine_standard_objects.proofs.perform.many.Goals as goal

pub returns-then-concerns_nothing : goal.returns-then-concerns_nothing
returns-then-concerns_nothing c = λ loaded. nothing_went loaded c.args.operation c.args.here
    c.args.ending.after c.args.ending.result c.args.ending.branch c.args.values.now _
    (sym c.concerns_nothing.ensures ∙ c.if-concerns_nothing.true) c.perform_on_nothing.ensures

pub returns-then-may_be_forgiven : goal.returns-then-may_be_forgiven
returns-then-may_be_forgiven c = λ loaded. forgiven_went loaded c.args.operation c.args.here
    c.args.ending.after c.args.ending.result c.args.ending.branch c.args.values.now _
    (sym c.concerns_nothing.ensures ∙ c.if-concerns_nothing.false)
    (no_flags c.args.operation _ (ap is_several c.requires.count))
    (sym c.may_be_forgiven.ensures ∙ c.if-may_be_forgiven.true) c.perform_forgiving.ensures

pub returns : goal.returns
returns c = λ loaded. known_went loaded c.args.operation c.args.here c.args.ending.after
    c.args.ending.result c.args.ending.branch c.args.values.now _
    (sym c.concerns_nothing.ensures ∙ c.if-concerns_nothing.false) (no_flags c.args.operation _ (ap is_several c.requires.count))
    (sym c.may_be_forgiven.ensures ∙ c.if-may_be_forgiven.false) (two_plain c.args.operation c.requires.count)
    c.perform_many.ensures
