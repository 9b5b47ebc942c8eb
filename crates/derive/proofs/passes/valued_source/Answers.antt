use Rattle.std.proofs.Common.{ap, ◌∙◌}
use Rattle.derive_tokens.specs.Pieces.{derived_all}
use Rattle.derive_expressions.specs.Depth.{depth_fault}
use Rattle.derive_values.specs.Views.{numbers_held}
use Rattle.derive.specs.Passes.{formed_source}
use Rattle.derive.proofs.Finishing.{or_fault_none, or_fault_some}
use Rattle.derive.proofs.passes.valued_source.Goals as goal

pub returns-in-Some : goal.returns-in-Some
returns-in-Some c =
    or_fault_some c.in-Some.fault (depth_fault (derived_all c.args.values.items))
    (formed_source (numbers_held c.args.numbers.now) (derived_all c.args.values.items))
    (c.in-Some.ensures ∙ ap depth_fault (ap derived_all c.deref.ensures.value))

pub returns-in-None : goal.returns-in-None
returns-in-None c =
    or_fault_none c.formed_source.result (depth_fault (derived_all c.args.values.items))
    (formed_source (numbers_held c.args.numbers.now) (derived_all c.args.values.items))
    (c.in-None.ensures ∙ ap depth_fault (ap derived_all c.deref.ensures.value)) c.formed_source.ensures
