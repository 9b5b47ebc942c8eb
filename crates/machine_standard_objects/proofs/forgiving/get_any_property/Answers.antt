use Rattle.machine_frames.proofs.Steps.{went_then, went_no_further, went_err}
use Rattle.zcore_standard.specs.Forgiving.{get_any_property}
use Rattle.machine_standard_objects.proofs.forgiving.get_any_property.Goals as goal

pub returns-in_err-found : goal.returns-in_err-found
unfolding get_any_property
returns-in_err-found c = went_err _ c.from_residual.ensures.1 (went_no_further _ c.in_err-found.ensures.went)

pub returns-in_err-word : goal.returns-in_err-word
unfolding get_any_property
returns-in_err-word c = went_err _ c.from_residual-in_err-word.ensures.1
    (went_then _ c.in_ok-found.ensures.went (went_no_further _ c.in_err-word.ensures))

pub returns : goal.returns
unfolding get_any_property
returns c = went_then _ c.in_ok-found.ensures.went (went_then _ c.in_ok-word.ensures c.give_result.ensures)
