use Rattle.zcore_standard.specs.Windows.{set_window}
use Rattle.machine_standard_windows.proofs.windows.select_lower.Goals as goal

pub returns-clause-redraws : goal.returns-clause-redraws
unfolding set_window
returns-clause-redraws c = λ next s. c.begin_or_drop_upper.ensures.redraws next s
