use Rattle.std.proofs.Common.{ap, sym, ◌∙◌}
use Rattle.zcore.specs.Turn.{is_waiting}
use Rattle.session_run.proofs.answering.waits.Goals as goal

pub returns-in-Waiting : goal.returns-in-Waiting
returns-in-Waiting c = λ game s h. ap is_waiting (sym c.in-Waiting.is ∙ c.place.ensures.place game s h)
