use Rattle.std.proofs.Common.{refl, sym, ◌∙◌}
use Rattle.machine_frames.proofs.Steps.{goes_on_still}
use Rattle.machine_frames.proofs.Kept.{same_standard_state}
use Rattle.machine_frames.proofs.cells.set_standard_state.Goals as goal

pub returns-then-eq-clause-kept : goal.returns-then-eq-clause-kept
returns-then-eq-clause-kept c = (
  goes_on_still _ c.requires,
  λ text. refl,
  refl,
  sym c.standard_state.ensures ∙ same_standard_state c.standard_state.result c.args.kept (sym c.eq.ensures ∙ c.if-eq.true),
)
