use Rattle.std.proofs.Common.{ap, refl, subst, List, ℕ, ◌∙◌}
use Rattle.zcore_standard.specs.Streams.{heard}
use Rattle.zcore_standard.specs.declared.streams.Stream.{Stream}
use Rattle.machine_picture.specs.Represented.{IsShown}
use Rattle.machine_styling.proofs.before.shown_by.Goals as goal

pub returns : goal.returns
returns c =
    subst (λ (l : List ℕ). IsShown c.args.turn.now.upper c.args.turn.now.standard_state.window l c.shown_in.result)
    (c.heard_length-heard.ensures.heard c.args.text.now refl
    ∙ ap (λ (l : List Stream). heard l c.args.text.now) c.as_slice.ensures.value)
    c.shown_in.ensures
